use Prim.Native.Nat.{ℕ, ◌<◌}
use mathlib.Core.Path.{◌≡◌, sym, ap, ap₂, subst, ◌∙◌}
use mathlib.Core.List.{List}
use native.Mathlib.Omega.{arith}
use lib.IntN.{ℤ}
use lib.ListN.{length}
use Rattle.model.specs.State.{fresh_state}
use Rattle.host.specs.Parts.{Row}
use Rattle.host.specs.Holding.{Host, host_of, host_in}
use Rattle.replaying.specs.Replay.{Stage, Wrote, stage_in}
use Rattle.replaying.proofs.Whole.{Through, through_start, piece_moves, through_piece, through_all}
use Rattle.console.proofs.print.Goals as goal
use Rattle.console.proofs.print.Goals.{After-piece-progress}

-- how far a call has come, by its equation
moved : {w v : Wrote} → w ≡ v → w.stage ≡ v.stage
moved e = ap (λ (x : Wrote). x.stage) e

-- ---- before the loop

pub loop-progress-init : goal.loop-progress-init
loop-progress-init c =
    let fresh : host_in c.fresh.result c.no_adjustments.result ≡ host_of fresh_state = ap₂ (λ (r : Row) (a : List ℤ). record { row = r; adjustments = a }) c.fresh.ensures c.no_adjustments.ensures in
    let e = ap (λ (x : Host). stage_in x c.start-progress.result) fresh ∙ moved c.start-progress.ensures.out_after in
    (subst (Through _ _) (sym e) (through_start _ _ _), c.large_buffer-out.ensures ∙ sym c.start-progress.auto.out)

-- ---- a turn

-- behind a piece fewer events are left, whether or not its text is written
fewer : (c : After-piece-progress) → c.piece-progress.result.left < c.loop-progress.progress.left
fewer c =
    let l = c.loop-progress in
    let m = piece_moves _ _ l.out l.invariant.0.came c.loop-progress-test.true (omega (arith, l.invariant.1)) in
    subst (λ (n : ℕ). n < l.progress.left) (sym (ap (λ (s : Stage). s.left) (moved c.piece-progress.ensures.out_after))) m

-- .. and the invariant holds again
again : (c : After-piece-progress)
    → Through c.args.engine c.args.file.now (stage_in (host_in c.piece-progress.new.host c.piece-progress.new.adjustments) c.piece-progress.result) × (65536 ≡ length c.piece-progress.new.out)
again c =
    let l = c.loop-progress in (
      subst (Through _ _) (sym (moved c.piece-progress.ensures.out_after)) (through_piece _ _ l.out l.invariant.0),
      l.invariant.1 ∙ sym c.piece-progress.auto.out,
    )

pub loop-progress-smaller-then-whole : goal.loop-progress-smaller-then-whole
loop-progress-smaller-then-whole c = fewer (goal.at.loop-progress-smaller-then-whole c).After-piece-progress

pub loop-progress-preserved-then-whole : goal.loop-progress-preserved-then-whole
loop-progress-preserved-then-whole c = again (goal.at.loop-progress-preserved-then-whole c).After-piece-progress

pub loop-progress-smaller : goal.loop-progress-smaller
loop-progress-smaller c = fewer (goal.at.loop-progress-smaller c).After-piece-progress

pub loop-progress-preserved : goal.loop-progress-preserved
loop-progress-preserved c = again (goal.at.loop-progress-preserved c).After-piece-progress

-- ---- behind the loop

pub returns : goal.returns
returns c = through_all _ _ c.loop-progress.invariant.0 c.loop-progress-test.false
