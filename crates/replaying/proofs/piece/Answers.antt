use Prim.Native.Nat.{ℕ, ◌+◌, ◌<◌, ◌^◌}
use mathlib.Core.Path.{◌≡◌, sym, ap, ◌∙◌}
use native.Mathlib.Omega.{arith}
use Rattle.model.specs.Events.{event_of}
use Rattle.host.specs.Holding.{host_in}
use Rattle.runfile.specs.Body.{next_at}
use Rattle.replaying.specs.Replay.{Stage, stage_in}
use Rattle.replaying.proofs.Turns.{ready, next_inside}
use Rattle.replaying.proofs.Replies.{turned}
use Rattle.replaying.proofs.Going.{goes_on, ends_over, ends_full}
use Rattle.replaying.proofs.piece.Goals as goal
use Rattle.replaying.proofs.piece.Goals.{In-loop-progress}

-- ---- in a turn: the stage, and room for what is read

abbrev here : In-loop-progress → Stage
here c = stage_in (host_in c.loop-progress.host c.loop-progress.adjustments) c.loop-progress.progress

fit : (c : In-loop-progress) → next_at c.args.file.now c.loop-progress.progress.at < 2 ^ 64
fit c = omega (arith, next_inside c.loop-progress.invariant.came c.loop-progress-test.true, c.well_formed)

-- ---- the needs

pub run-reply-requires : goal.run-reply-requires
run-reply-requires c = (ready c.loop-progress.invariant.came).held

pub overflow_add-progress : goal.overflow_add-progress
overflow_add-progress c =
    let bytes : c.loop-progress.progress.at + c.size_at-size.result ≡ next_at c.args.file.now c.loop-progress.progress.at = ap (λ (n : ℕ). c.loop-progress.progress.at + n) c.size_at-size.ensures in
    omega (arith, fit (goal.at.overflow_add-progress c).In-loop-progress)

pub overflow_add-progress-in-loop-progress : goal.overflow_add-progress-in-loop-progress
overflow_add-progress-in-loop-progress c = omega (arith, (ready c.loop-progress.invariant.came).few)

pub loop-progress-preserved : goal.loop-progress-preserved
loop-progress-preserved c =
    let l = c.loop-progress in
    let w = c.reply_line in
    let bytes : l.progress.at + c.size_at-size.result ≡ next_at c.args.file.now l.progress.at = ap (λ (n : ℕ). l.progress.at + n) c.size_at-size.ensures in
    let e = ap (event_of c.event_at-event.result) c.handed_at-handed.ensures ∙ c.event_at-event.ensures in
    let did =
    turned c.args.engine c.args.file.now (here (goal.at.loop-progress-preserved c).In-loop-progress) l.out l.progress.written e c.run-reply.ensures.result_after w.ensures.out_after w.ensures.upper_bound in
    goes_on l.invariant c.loop-progress-test.true (sym c.has_room.ensures ∙ c.if-has_room.true) w.auto.out bytes did

pub returns-after-loop-progress-clause-out_after : goal.returns-after-loop-progress-clause-out_after
returns-after-loop-progress-clause-out_after c = ends_over c.loop-progress.invariant (omega arith)

pub returns-else-has_room-clause-out_after : goal.returns-else-has_room-clause-out_after
returns-else-has_room-clause-out_after c =
    let l = c.loop-progress in
    ends_full l.invariant (sym c.has_room.ensures ∙ c.if-has_room.false)
