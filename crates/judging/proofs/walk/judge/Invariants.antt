use mathlib.Core.Path.{◌≡◌}
use Rattle.model.specs.Operation.{operations_of}
use Rattle.judging.specs.Walk.{walk_from}
use Rattle.judging.proofs.Operations.{rest}
use Rattle.judging.proofs.walk.judge.Given as goal

-- The invariant: walking on from here comes to what the walk from the start does.
abbrev pub invariant-loop-position : goal.invariant-loop-position
invariant-loop-position l = walk_from (rest l.bytes l.position) l.copies l.position ≡ walk_from (operations_of l.bytes) l.initial.copies 0
