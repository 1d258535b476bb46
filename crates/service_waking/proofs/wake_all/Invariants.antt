use Rattle.service_waking.specs.Lent.{lent_in}
use Rattle.service_waking.proofs.SetLoops.{Walk}
use Rattle.service_waking.proofs.wake_all.Given as goal

-- `service_waking::wake_all` meets its contract: what is left to treat at a slot gives what all gave at the start.
abbrev pub invariant-loop-slot : goal.invariant-loop-slot
invariant-loop-slot l = Walk l.engine l.mask-items (lent_in l.initial.host l.initial.adjustments l.initial.wakings 0) l.slot (lent_in l.host l.adjustments l.wakings l.tally.woken) l.tally.looks
