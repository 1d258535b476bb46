use mathlib.Core.Path.{◌≡◌}
use Rattle.model.specs.Operation.{operations_of}
use Rattle.judging.proofs.Operations.{rest}
use Rattle.judging.proofs.StopLaws.{stop_by}
use Rattle.judging.proofs.stop.stop_of.Given as goal

-- The invariant: going on from here stops where going from the start does, or goes through as that does.
abbrev pub invariant-loop-piece : goal.invariant-loop-piece
invariant-loop-piece l = stop_by (rest l.bytes l.piece-index) l.values ≡ stop_by (operations_of l.bytes) l.initial.values
