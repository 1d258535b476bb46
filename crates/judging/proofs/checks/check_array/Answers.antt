use borrow.Author.Rules.{rules}
use borrow.Author.Tests.{le-leb, lt-leb}
use mathlib.Core.Path.{◌≡◌, sym, ap, ◌∙◌}
use mathlib.Core.Bool.{Bool, true, false, cond, ◌&&◌}
use native.Mathlib.Omega.{arith}
use Prim.Native.Nat.{ℕ, ◌+◌, ◌*◌, ◌/◌, ◌<◌}
use lib.ListN.{length}
use lib.Bits.{bit_or}
use mir.Syntax.{w16}
use mir.Val.{SFits}
use mir.Facts.{to_z-of_z}
use Rattle.model.specs.Operation.{operation_at, operations_of, is_zero}
use Rattle.judging.specs.Named.{named_within}
use Rattle.judging.proofs.Operations.{rest, of_piece}
use Rattle.judging.proofs.NamedLaws.{more, done}
use Rattle.judging.proofs.Refusals as law
use Rattle.judging.proofs.checks.check_array.Goals as goal
use Rattle.judging.proofs.checks.check_array.Goals.{After-operation_of-operation, then-not-both, else-not-both}

-- the operation of a turn
module _ (c : After-operation_of-operation) where
  within : c.loop-piece.piece-index < length c.args.bytes.now / 6
  within = omega arith

  read : c.operation_of-operation.result ≡ operation_at c.args.bytes.now (c.loop-piece.piece-index * 6)
  read = c.operation_of-operation.ensures ∙ of_piece c.args.bytes.now _ _ _ c.as_chunks.ensures.front within

pub returns-then-past-operation-clause-code_value : goal.returns-then-past-operation-clause-code_value
returns-then-past-operation-clause-code_value c =
    let a = c.args in
    let o = (goal.at.returns-then-past-operation-clause-code_value c).After-operation_of-operation in
    law.high a.count a.reads a.alters _ c.loop-piece.piece-index c.loop-piece.allowed c.operation_of-operation.result (within o) (read o) (le-leb _ _ (omega arith))
    ∙ c.loop-piece.invariant.0

pub loop-piece-preserved : goal.loop-piece-preserved
loop-piece-preserved c =
    let a = c.args in
    let l = c.loop-piece in
    let o = c.operation_of-operation.result in
    let t = (goal.at.loop-piece-preserved c).After-operation_of-operation in
    let f : SFits w16 o.amount = search rules in
    -- one operation more is allowed or not
    let goes : (may : Bool) → may ≡ cond (is_zero o.amount) a.reads a.alters → law.refusal a.count a.reads a.alters (l.allowed && may) (rest a.bytes.now (l.piece-index + 1)) ≡ law.refusal a.count a.reads a.alters true (operations_of a.bytes.now) =
    λ may e. law.on a.count a.reads a.alters _ l.piece-index l.allowed o (within t) (read t) (lt-leb _ _ (omega arith)) may e ∙ l.invariant.0 in (
      elim c.if-not-both.branch [
        | then-not-both w ↦ rw w.allowed-is (goes _ (rw (to_z-of_z f) at w.may-allowed.ensures))
        | else-not-both w ↦ rw (w.allowed-is ∙ sym (law.and_true l.allowed)) (goes true (law.both_allowed a.reads a.alters (is_zero o.amount) w.if-not-both.false))
      ],
      ap (λ (b : ℕ). named_within (bit_or l.names b) (rest a.bytes.now (l.piece-index + 1))) c.number_bit-names.ensures
          ∙ more _ l.names l.piece-index o (within t) (read t) ∙ l.invariant.1,
    )

pub returns-then-allowed-clause-code_value : goal.returns-then-allowed-clause-code_value
returns-then-allowed-clause-code_value c =
    let a = c.args in
    law.end a.count a.reads a.alters a.bytes.now c.loop-piece.piece-index c.loop-piece.allowed (omega arith) true c.if-allowed.true ∙ c.loop-piece.invariant.0

pub returns-then-allowed-clause-names_value : goal.returns-then-allowed-clause-names_value
returns-then-allowed-clause-names_value c = sym (done _ c.loop-piece.names c.loop-piece.piece-index (omega arith)) ∙ c.loop-piece.invariant.1

pub returns-else-allowed-clause-code_value : goal.returns-else-allowed-clause-code_value
returns-else-allowed-clause-code_value c =
    let a = c.args in
    law.end a.count a.reads a.alters a.bytes.now c.loop-piece.piece-index c.loop-piece.allowed (omega arith) false c.if-allowed.false ∙ c.loop-piece.invariant.0
