use Rattle.service_table.proofs.LoopLaws.{Clearing}
use Rattle.service_table.proofs.clear_adjustments.Given as goal

-- `clear_adjustments` meets its contract: one process a turn.
abbrev pub invariant-loop-n : goal.invariant-loop-n
invariant-loop-n l = Clearing l.initial.adjustments l.slot.index l.adjustments l.n
