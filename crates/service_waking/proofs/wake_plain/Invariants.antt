use mathlib.Core.Path.{◌≡◌}
use Rattle.host.specs.Parts.{row_in}
use Rattle.host.specs.Holding.{asleep_in}
use Rattle.service_waking.specs.Lent.{lent_in, plainly}
use Rattle.service_waking.proofs.WakingLoops.{Begun, PlainTurn}
use Rattle.service_waking.proofs.wake_plain.Given as goal

-- `service_waking::wake_plain` meets its contract.
abbrev pub invariant-loop-i : goal.invariant-loop-i
invariant-loop-i l = (l.host ≡ l.initial.host) × (l.adjustments ≡ l.initial.adjustments) × (l.wakings ≡ l.initial.wakings) × (l.tally.woken ≡ l.initial.tally.woken) × PlainTurn l.slot.index (lent_in l.initial.host l.initial.adjustments l.initial.wakings l.initial.tally.woken) l.initial.tally.looks l.i l.tally.looks

abbrev pub invariant-rounds : goal.invariant-rounds
invariant-rounds l = Begun l.initial.tally.looks (lent_in l.host l.adjustments l.wakings l.tally.woken) l.tally.looks
    × (plainly l.slot.index (lent_in l.host l.adjustments l.wakings l.tally.woken) l.tally.looks ≡ plainly l.slot.index (lent_in l.initial.host l.initial.adjustments l.initial.wakings l.initial.tally.woken) l.initial.tally.looks)

abbrev pub decreases-rounds : goal.decreases-rounds
decreases-rounds l = asleep_in (row_in l.host)
