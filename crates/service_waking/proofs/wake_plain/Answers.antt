use Prim.Native.Nat.{◌+◌, ◌<◌}
use mathlib.Core.Path.{◌≡◌, refl, sym, ◌∙◌}
use native.Mathlib.Omega.{arith}
use lib.ListN.{get_or}
use Rattle.model.specs.State.{no_sleeper}
use Rattle.model.specs.Waking.{finish}
use Rattle.host.specs.Parts.{order, sleeps_at, row_in}
use Rattle.host.specs.Holding.{entry, asleep_in}
use Rattle.service_waking.specs.Lent.{lent_in, world_in, lent_with, JudgedAs, plainly}
use Rattle.service_waking.proofs.LentLaws.{within, woken_few}
use Rattle.service_waking.proofs.SettleLaws.{settleable, judged_in}
use Rattle.service_waking.proofs.WakingLoops.{Begun, begun, plain_skips, plain_goes_on, plain_again_here, plain_done}
use Rattle.service_waking.proofs.wake_plain.Goals as goal
use Rattle.service_waking.proofs.wake_plain.Goals.{After-finish, else-slot_at-slot, then-slot_at-slot+else-finishes}

-- what a finished sleeper leaves, and the rule from there on
next : (c : After-finish) →
    let o = c.rounds in
    let f = c.finish.new in
    let x = lent_in o.host o.adjustments o.wakings o.tally.woken in
    let y = lent_in f.host f.adjustments f.wakings (o.tally.woken + 1) in
    Begun c.args.start.looks y (c.loop-i.tally.looks + 1) × (asleep_in (row_in f.host) < asleep_in (row_in o.host)) × (plainly c.args.slot.index y (c.loop-i.tally.looks + 1) ≡ plainly c.args.slot.index x o.tally.looks)
next c =
    let o = c.rounds in
    let l = c.loop-i in
    let f = c.finish.new in
    let x = lent_in o.host o.adjustments o.wakings o.tally.woken in
    let r = o.invariant.0.ready in
    let h : l.i < asleep_in (row_in o.host) = rw c.asleep_of-n.ensures at c.loop-i-test.true in
    let s : c.slot_at.result ≡ get_or (row_in o.host sleeps_at) (entry (get_or (row_in o.host order) l.i 0)) 0 = rw (c.process_at-process.ensures, l.invariant.0) at c.slot_at.ensures in
    let j : JudgedAs (world_in x).table (get_or (world_in x).queue l.i no_sleeper) c.look-looked.result.outcome c.look-looked.result.position c.look-looked.result.copies =
    judged_in x l.i (rw (l.invariant.0, l.invariant.1) at c.look-looked.ensures) in
    let q : lent_in f.host f.adjustments f.wakings (o.tally.woken + 1) ≡ lent_with x (finish (world_in x) l.i) = rw (l.invariant.0, l.invariant.1, l.invariant.2, l.invariant.3) at c.finish.ensures in
    let n = plain_again_here _ x r o.tally.looks l.i l.tally.looks l.invariant.4 h (sym s ∙ c.if-slot_at-slot.true) j _ o.invariant.0 (sym c.finishes.ensures ∙ c.if-finishes.true) q in
    (n.begins, n.fewer, n.same)

pub rounds-init : goal.rounds-init
rounds-init c = (begun _ _ c.requires.ready, refl)

pub look-looked-requires : goal.look-looked-requires
look-looked-requires c =
    let o = c.rounds in
    let l = c.loop-i in
    let x = lent_in o.host o.adjustments o.wakings o.tally.woken in
    rw (l.invariant.0, l.invariant.1) (settleable x o.invariant.0.ready l.i (within x o.invariant.0.ready l.i (rw c.asleep_of-n.ensures at c.loop-i-test.true)))

pub finish-requires : goal.finish-requires
finish-requires c =
    let o = c.rounds in
    let l = c.loop-i in
    let x = lent_in o.host o.adjustments o.wakings o.tally.woken in
    rw (l.invariant.0, l.invariant.1, l.invariant.2, l.invariant.3)
    (record {
      ready = o.invariant.0.ready;
      there = within x o.invariant.0.ready l.i (rw c.asleep_of-n.ensures at c.loop-i-test.true);
      finished = sym c.finishes.ensures ∙ c.if-finishes.true;
      judged = judged_in x l.i (rw (l.invariant.0, l.invariant.1) at c.look-looked.ensures);
    })

pub overflow_add-tally-then-finishes : goal.overflow_add-tally-then-finishes
overflow_add-tally-then-finishes c =
    let o = c.rounds in
    let l = c.loop-i in
    let x = lent_in o.host o.adjustments o.wakings o.tally.woken in
    record { fits = omega (arith, l.invariant.3, woken_few x o.invariant.0.ready l.i (rw c.asleep_of-n.ensures at c.loop-i-test.true)) }

pub rounds-smaller : goal.rounds-smaller
rounds-smaller c = (next (goal.at.rounds-smaller c).After-finish).1

pub rounds-preserved : goal.rounds-preserved
rounds-preserved c =
    let n = next (goal.at.rounds-preserved c).After-finish in
    rw c.loop-i.invariant.3 (n.0, n.2 ∙ c.rounds.invariant.1)

pub loop-i-preserved : goal.loop-i-preserved
loop-i-preserved c =
    let o = c.rounds in
    let l = c.loop-i in
    let x = lent_in o.host o.adjustments o.wakings o.tally.woken in
    let r = o.invariant.0.ready in
    let h : l.i < asleep_in (row_in o.host) = rw c.asleep_of-n.ensures at c.loop-i-test.true in
    let s : c.slot_at.result ≡ get_or (row_in o.host sleeps_at) (entry (get_or (row_in o.host order) l.i 0)) 0 = rw (c.process_at-process.ensures, l.invariant.0) at c.slot_at.ensures in
    elim c.if-slot_at-slot.branch [
      | then-slot_at-slot+else-finishes w ↦ rw w.tally-is (l.invariant.0, l.invariant.1, l.invariant.2, l.invariant.3, plain_goes_on _ x r o.tally.looks l.i l.tally.looks l.invariant.4 h (sym s ∙ w.if-slot_at-slot.true) (judged_in x l.i (rw (l.invariant.0, l.invariant.1) at w.look-looked.ensures)) (sym w.finishes.ensures ∙ w.if-finishes.false))
      | else-slot_at-slot w ↦ rw w.tally-is (l.invariant.0, l.invariant.1, l.invariant.2, l.invariant.3, plain_skips _ x r o.tally.looks l.i l.tally.looks l.invariant.4 h (λ e. w.if-slot_at-slot.false (s ∙ e)))
    ]

pub returns-in-rounds : goal.returns-in-rounds
returns-in-rounds c =
    let o = c.rounds in
    let l = c.loop-i in
    let x = lent_in o.host o.adjustments o.wakings o.tally.woken in
    rw (l.invariant.0, l.invariant.1, l.invariant.2, l.invariant.3)
    (plain_done _ x o.invariant.0.ready o.tally.looks l.i l.tally.looks l.invariant.4 (rw c.asleep_of-n.ensures at c.loop-i-test.false) ∙ o.invariant.1)
