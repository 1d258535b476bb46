use mathlib.Core.Path.{◌≡◌, ◌∙◌}
use native.Mathlib.Omega.{arith}
use Prim.Native.Nat.{◌*◌, ◌/◌, ◌<◌}
use lib.ListN.{length}
use Rattle.model.specs.Operation.{operation_at}
use Rattle.judging.proofs.Operations.{of_piece}
use Rattle.judging.proofs.Walking as law
use Rattle.judging.proofs.walk.judge.Goals as goal
use Rattle.judging.proofs.walk.judge.Goals.{After-operation_of-operation}

-- the operation of a turn
module _ (c : After-operation_of-operation) where
  within : c.loop-position.position < length c.args.bytes.now / 6
  within = omega arith

  read : c.operation_of-operation.result ≡ operation_at c.args.bytes.now (c.loop-position.position * 6)
  read = c.operation_of-operation.ensures ∙ of_piece c.args.bytes.now _ _ _ c.as_chunks.ensures.front within

pub returns-in_default : goal.returns-in_default
returns-in_default c =
    let t = (goal.at.returns-in_default c).After-operation_of-operation in
    law.off _ c.loop-position.position c.operation_of-operation.result _ _ _ (within t) (read t) (c.operate.ensures c.loop-position.position) c.in_default.not-Done ∙ c.loop-position.invariant

pub loop-position-preserved : goal.loop-position-preserved
loop-position-preserved c =
    let t = (goal.at.loop-position-preserved c).After-operation_of-operation in
    law.on _ c.loop-position.position c.operation_of-operation.result _ _ _ (within t) (read t) (c.operate.ensures c.loop-position.position) c.in-Done.is ∙ c.loop-position.invariant

pub returns : goal.returns
returns c = rw c.as_chunks.ensures.front_len (law.last _ _ c.loop-position.position (omega arith)) ∙ c.loop-position.invariant
