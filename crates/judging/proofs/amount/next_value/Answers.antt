use borrow.Author.Tests.{eq-eqb, ne_eqb}
use mathlib.Core.Path.{◌≡◌, sym, ◌∙◌}
use mathlib.Core.Bool.{true, false}
use lib.IntN.{ℤ, pos}
use lib.Signed.{lt_z}
use mir.Syntax.{w32}
use mir.Facts.{to_z-of_z}
use mir.Val.{to_z, of_z}
use Rattle.model.specs.Operation.{is_zero}
use Rattle.judging.specs.Stop.{moved_to}
use Rattle.judging.proofs.Signed.{clash, at_most}
use Rattle.judging.proofs.Values.{next_is, next_zero, zero_is}
use Rattle.judging.proofs.amount.next_value.Goals as goal
use Rattle.judging.proofs.amount.next_value.Goals.{After-moved-new, Then-amount-eq0, else-new-ge0-via-then-new-ge0+else-new-le-MOST, else-new-ge0-via-else-new-ge0}

-- An amount of 0 is told apart; of any other, where it leads decides (proofs/Values.antt).
-- an amount of 0
zero : (c : Then-amount-eq0) → is_zero c.args.amount ≡ true
zero c = sym (zero_is c.ranges.amount) ∙ eq-eqb _ _ c.if-amount-eq0.true

-- where the amount leads
abbrev new : After-moved-new → ℤ
new c = moved_to c.args.value c.args.amount

-- .. as it stands in a local
new_is : (c : After-moved-new) → to_z w32 (of_z w32 c.moved-new.result) ≡ new c
new_is c =
    let not_zero : is_zero c.args.amount ≡ false = sym (zero_is c.ranges.amount) ∙ ne_eqb _ _ c.if-amount-eq0.false in
    rw not_zero (to_z-of_z {w = w32} (record { sfits = c.moved-new.type_inv }) ∙ (rw (to_z-of_z c.ranges.amount) at c.moved-new.ensures))

pub returns-then-value-eq0 : goal.returns-then-value-eq0
returns-then-value-eq0 c =
    let a = c.args in
    rw (next_zero a.value a.amount (zero (goal.at.returns-then-value-eq0 c).Then-amount-eq0), eq-eqb a.value 0 c.if-value-eq0.true, c.if-value-eq0.true)

pub returns-then-amount-eq0 : goal.returns-then-amount-eq0
returns-then-amount-eq0 c =
    let a = c.args in
    rw (next_zero a.value a.amount (zero (goal.at.returns-then-amount-eq0 c).Then-amount-eq0), ne_eqb a.value 0 c.if-value-eq0.false)

pub returns-then-new-le-MOST : goal.returns-then-new-le-MOST
returns-then-new-le-MOST c =
    let m = (goal.at.returns-then-new-le-MOST c).After-moved-new in
    let e = new_is m in
    rw (e, next_is c.args.value c.args.amount, at_most (pos 0) (new m) true (rw e at c.if-new-ge0.true), at_most (new m) (pos 32767) true (rw e at c.if-new-le-MOST.true))

pub returns-then-new-lt0 : goal.returns-then-new-lt0
returns-then-new-lt0 c =
    let a = c.args in
    rw (next_is a.value a.amount, rw (new_is (goal.at.returns-then-new-lt0 c).After-moved-new) at c.if-new-lt0.true)

pub returns-then-amount-gt0 : goal.returns-then-amount-gt0
returns-then-amount-gt0 c =
    let m = (goal.at.returns-then-amount-gt0 c).After-moved-new in
    let e = new_is m in
    let low = rw e at c.if-new-lt0.false in
    let above : lt_z (pos 32767) (new m) ≡ true = elim c.else-new-ge0.branch [
      | else-new-ge0-via-then-new-ge0+else-new-le-MOST w ↦ at_most (new m) (pos 32767) false (rw e at w.if-new-le-MOST.false)
      | else-new-ge0-via-else-new-ge0 w ↦ clash (sym low ∙ at_most (pos 0) (new m) false (rw e at w.if-new-ge0.false))
    ] in
    rw (next_is c.args.value c.args.amount, low, above, rw (to_z-of_z c.ranges.amount) at c.if-amount-gt0.true)

pub returns-else-amount-gt0 : goal.returns-else-amount-gt0
returns-else-amount-gt0 c =
    let m = (goal.at.returns-else-amount-gt0 c).After-moved-new in
    let e = new_is m in
    let low = rw e at c.if-new-lt0.false in
    let above : lt_z (pos 32767) (new m) ≡ true = elim c.else-new-ge0.branch [
      | else-new-ge0-via-then-new-ge0+else-new-le-MOST w ↦ at_most (new m) (pos 32767) false (rw e at w.if-new-le-MOST.false)
      | else-new-ge0-via-else-new-ge0 w ↦ clash (sym low ∙ at_most (pos 0) (new m) false (rw e at w.if-new-ge0.false))
    ] in
    rw (e, next_is c.args.value c.args.amount, low, above, rw (to_z-of_z c.ranges.amount) at c.if-amount-gt0.false)
