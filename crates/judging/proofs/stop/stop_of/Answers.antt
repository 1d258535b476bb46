use borrow.Author.Rules.{rules}
use borrow.Author.Tests.{eq-eqb, ne_eqb}
use mathlib.Core.Path.{◌≡◌, refl, sym, ap, ◌∙◌}
use mathlib.Core.Bool.{Bool, true, false, not}
use native.Mathlib.Omega.{arith}
use Prim.Native.Nat.{ℕ, ◌*◌, ◌/◌, ◌%◌, ◌<◌}
use lib.ListN.{length}
use lib.IntN.{ℤ, pos, ◌+ℤ◌}
use mir.Syntax.{w16, w32}
use mir.Facts.{to_z-of_z}
use mir.Val.{SFits, to_z, of_z}
use Rattle.model.specs.Limits.{semaphores}
use Rattle.model.specs.Operation.{operation_at, is_zero}
use Rattle.model.specs.Checks.{in_range}
use Rattle.judging.specs.Stop.{moved_to, Stopped}
use Rattle.judging.proofs.Values.{zero_is}
use Rattle.judging.proofs.Operations.{of_piece}
use Rattle.judging.proofs.StopLaws.{goes_on, stops_here, zero_on, zero_stops, stops_nowhere}
use Rattle.judging.proofs.stop.stop_of.Goals as goal
use Rattle.judging.proofs.stop.stop_of.Goals.{After-operation_of-operation, then-amount-eq0+else-value-ne0, else-amount-eq0+else-not-in_range}

-- an amount of 0, by its bits
zero : (z : ℤ) → SFits w16 z → of_z w16 z ≡ 0 → is_zero z ≡ true
zero z f e = sym (zero_is f) ∙ eq-eqb _ _ e

-- where any other leads
leads : (v : ℕ) (z new : ℤ) → SFits w16 z → (of_z w16 z ≡ 0 → ⊥) → new ≡ pos v +ℤ to_z w16 (of_z w16 z) → new ≡ moved_to v z
leads v z new f n e =
    let not_zero : is_zero z ≡ false = sym (zero_is f) ∙ ne_eqb _ _ n in
    rw not_zero (rw (to_z-of_z f) at e)

-- what is promised, from one equation
number_is : {a b : Stopped × Bool} → a ≡ b → a.0.operation.number % semaphores ≡ b.0.operation.number % semaphores
number_is e = ap (λ (y : Stopped × Bool). y.0.operation.number % semaphores) e

amount_is : {a b : Stopped × Bool} → a ≡ b → a.0.operation.amount ≡ b.0.operation.amount
amount_is e = ap (λ (y : Stopped × Bool). y.0.operation.amount) e

none_is : {a b : Stopped × Bool} → a ≡ b → a.1 ≡ b.1
none_is e = ap (λ (y : Stopped × Bool). y.1) e

values_are : {a b : Stopped × Bool} → a ≡ b → a.0.values ≡ b.0.values
values_are e = ap (λ (y : Stopped × Bool). y.0.values) e

-- the operation of a turn
module _ (c : After-operation_of-operation) where
  within : c.loop-piece.piece-index < length c.args.bytes.now / 6
  within = omega arith

  read : c.operation_of-operation.result ≡ operation_at c.args.bytes.now (c.loop-piece.piece-index * 6)
  read = c.operation_of-operation.ensures ∙ of_piece c.args.bytes.now _ _ _ c.as_chunks.ensures.front within

pub returns-then-value-ne0 : goal.returns-then-value-ne0
returns-then-value-ne0 c =
    let o = c.operation_of-operation.result in
    let t = (goal.at.returns-then-value-ne0 c).After-operation_of-operation in
    let f : SFits w16 o.amount = search rules in
    let e = zero_stops _ c.loop-piece.piece-index o c.loop-piece.values (within t) (read t) refl (zero o.amount f c.if-amount-eq0.true) c.if-value-ne0.true ∙ c.loop-piece.invariant in
    record { number_value = number_is e; amount_value = to_z-of_z f ∙ amount_is e; none_value = none_is e; values_after = values_are e }

pub returns-then-not-in_range : goal.returns-then-not-in_range
returns-then-not-in_range c =
    let o = c.operation_of-operation.result in
    let t = (goal.at.returns-then-not-in_range c).After-operation_of-operation in
    let f : SFits w16 o.amount = search rules in
    let g : SFits w32 c.moved-new.result = search rules in
    let out : in_range c.moved-new.result ≡ false = sym (rw (to_z-of_z g) at c.in_range.ensures) ∙ c.if-not-in_range.true in
    let e = stops_here _ c.loop-piece.piece-index o c.loop-piece.values (within t) (read t) refl (leads _ o.amount _ f c.if-amount-eq0.false c.moved-new.ensures) (ap not out) ∙ c.loop-piece.invariant in
    record { number_value = number_is e; amount_value = to_z-of_z f ∙ amount_is e; none_value = none_is e; values_after = values_are e }

pub loop-piece-preserved : goal.loop-piece-preserved
loop-piece-preserved c =
    let o = c.operation_of-operation.result in
    let t = (goal.at.loop-piece-preserved c).After-operation_of-operation in
    let f : SFits w16 o.amount = search rules in
    elim c.if-amount-eq0.branch [
      | then-amount-eq0+else-value-ne0 w ↦
          rw w.values-is (zero_on _ c.loop-piece.piece-index o c.loop-piece.values (within t) (read t) refl (zero o.amount f w.if-amount-eq0.true) w.if-value-ne0.false) ∙ c.loop-piece.invariant
      | else-amount-eq0+else-not-in_range w ↦
          let g : SFits w32 w.moved-new.result = search rules in
          let inside : in_range w.moved-new.result ≡ true = sym (rw (to_z-of_z g) at w.in_range.ensures) ∙ w.if-not-in_range.false in
          rw (w.values-is, w.value_of.ensures, to_z-of_z g)
          (goes_on _ c.loop-piece.piece-index o c.loop-piece.values (within t) (read t) refl (leads _ o.amount _ f w.if-amount-eq0.false w.moved-new.ensures) (ap not inside)) ∙ c.loop-piece.invariant
    ]

pub returns : goal.returns
returns c =
    let e = stops_nowhere _ _ c.loop-piece.piece-index (omega arith) ∙ c.loop-piece.invariant in
    record { number_value = number_is e; amount_value = amount_is e; none_value = none_is e; values_after = values_are e }
