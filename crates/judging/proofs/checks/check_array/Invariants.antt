use mathlib.Core.Path.{◌≡◌}
use mathlib.Core.Bool.{true}
use Rattle.model.specs.Operation.{operations_of}
use Rattle.judging.specs.Named.{named_within}
use Rattle.judging.proofs.Operations.{rest}
use Rattle.judging.proofs.Refusals as law
use Rattle.judging.proofs.checks.check_array.Given as goal

-- The invariant: the code of the operations from here is that of all, and the mask with the bits of those from here that of
-- all.
abbrev pub invariant-loop-piece : goal.invariant-loop-piece
invariant-loop-piece l =
    (law.refusal l.count l.reads l.alters l.allowed (rest l.bytes l.piece-index) ≡ law.refusal l.count l.reads l.alters true (operations_of l.bytes))
    × (named_within l.names (rest l.bytes l.piece-index) ≡ named_within 0 (operations_of l.bytes))
