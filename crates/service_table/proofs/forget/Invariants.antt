use mathlib.Core.Path.{◌≡◌}
use Rattle.model.specs.Events.{clear_number}
use Rattle.service_table.proofs.forget.Given as goal

-- `forget` meets its contract: one process a turn.
abbrev pub invariant-loop-n : goal.invariant-loop-n
invariant-loop-n l = l.adjustments ≡ clear_number l.n l.fn.slot.index l.number l.initial.adjustments
