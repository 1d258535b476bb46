use borrow.Author.Rules.{rules}
use mathlib.Core.Path.{◌≡◌, sym, ◌∙◌, ap}
use lib.IntN.{ℤ, pos}
use lib.ListN.{get_or}
use Prim.Native.Nat.{ℕ}
use mir.Syntax.{w16}
use mir.Val.{SFits, to_z, of_z}
use mir.Facts.{to_z-of_z}
use Rattle.model.specs.Judge.{next_value, next_adjustment}
use Rattle.judging.proofs.Steps as law
use Rattle.judging.proofs.walk.operate.Goals as goal
use Rattle.judging.proofs.walk.operate.Goals.{then-has+in-Some, else-has}
use Rattle.std.specs.Prelude.{Option, Result, Err}
use Rattle.model.specs.declared.Halt.{Halt}

-- a call's answer, which stands for what the definition says of the numbers as they stand in locals
value_is : (v : ℕ) (z : ℤ) (r x : Result ℕ Halt) → SFits w16 z → r ≡ next_value v (to_z w16 (of_z w16 z)) → r ≡ x → next_value v z ≡ x
value_is v z r x f e is = sym (rw (to_z-of_z f) at e) ∙ is

adjustment_is : (a z : ℤ) (r x : Option ℤ) → SFits w16 a → SFits w16 z → r ≡ next_adjustment (to_z w16 (of_z w16 a)) (to_z w16 (of_z w16 z)) → r ≡ x → next_adjustment a z ≡ x
adjustment_is a z r x g f e is = sym (rw (to_z-of_z g, to_z-of_z f) at e) ∙ is

pub returns-in-None : goal.returns-in-None
returns-in-None c i =
    let o = c.args.operation in
    law.out _ _ o i _
    (value_is _ o.amount _ _ (search rules) c.next_value.ensures c.in-Ok.is)
    (sym c.has.ensures ∙ c.if-has.true)
    (adjustment_is (get_or c.args.copies.now.adjustments o.number (pos 0)) o.amount _ _ (search rules) (search rules) c.next_adjustment.ensures c.in-None.is)

pub returns-in-Err-Over : goal.returns-in-Err-Over
returns-in-Err-Over c i =
    let o = c.args.operation in
    law.over _ _ o i (value_is _ o.amount _ _ (search rules) c.next_value.ensures (c.in-Err-Over.is ∙ ap Err c.in-Err-Over.field-0-is))

pub returns-in-Err-Stop : goal.returns-in-Err-Stop
returns-in-Err-Stop c i =
    let o = c.args.operation in
    rw c.stopped.ensures (law.stop _ _ o i (value_is _ o.amount _ _ (search rules) c.next_value.ensures (c.in-Err-Stop.is ∙ ap Err c.in-Err-Stop.field-0-is)))

pub returns-after-has : goal.returns-after-has
returns-after-has c i =
    let o = c.args.operation in
    let to = value_is _ o.amount _ _ (search rules) c.next_value.ensures c.in-Ok.is in
    elim c.if-has.branch [
      | then-has+in-Some w ↦
          let f : SFits w16 w.in-Some.adjustment = search rules in
          rw (w.copies-is, to_z-of_z f) (law.undoing _ _ o i _ _ to (sym c.has.ensures ∙ w.if-has.true)
          (adjustment_is (get_or c.args.copies.now.adjustments o.number (pos 0)) o.amount _ _ (search rules) (search rules) w.next_adjustment.ensures w.in-Some.is))
      | else-has w ↦ rw w.copies-is (law.plain _ _ o i _ to (sym c.has.ensures ∙ w.if-has.false))
    ]
