use mathlib.Core.Path.{◌≡◌, sym, ◌∙◌}
use lib.ListN.{get_or}
use Rattle.model.specs.State.{no_set}
use Rattle.host.specs.Parts.{row_in}
use Rattle.host.specs.Holding.{sets_in}
use Rattle.host.proofs.SetRows.{set_in}
use Rattle.service_waking.proofs.SetLoops.{walk_free, walk_live, walk_done}
use Rattle.service_waking.proofs.wake_all.Goals as goal
use Rattle.service_waking.proofs.wake_all.Goals.{After-set_at-set, else-set-gt0, then-set-gt0}

-- the set that was read
the-set : (c : After-set_at-set) → c.set_at-set.result ≡ get_or (sets_in (row_in c.loop-slot.host)) c.loop-slot.slot no_set
the-set c = c.set_at-set.ensures ∙ sym (set_in _ c.loop-slot.slot c.loop-slot-test.true)

pub loop-slot-preserved : goal.loop-slot-preserved
loop-slot-preserved c =
    let a = c.loop-slot in
    let t = c.loop-slot-test.true in
    elim c.if-set-gt0.branch [
      | then-set-gt0 v ↦ rw (v.host-is, v.adjustments-is, v.wakings-is, v.tally-is) (walk_live _ _ _ a.slot _ _ a.invariant c.requires.touched_len t (rw (the-set (goal.at.loop-slot-preserved c).After-set_at-set) at v.if-set-gt0.true) v.wake-tally.ensures)
      | else-set-gt0 v ↦ rw (v.host-is, v.adjustments-is, v.wakings-is, v.tally-is) (walk_free _ _ _ a.slot _ _ a.invariant c.requires.touched_len t (rw (the-set (goal.at.loop-slot-preserved c).After-set_at-set) at v.if-set-gt0.false))
    ]

pub returns : goal.returns
returns c = walk_done _ _ _ _ _ _ c.loop-slot.invariant c.requires.touched_len c.loop-slot-test.false
