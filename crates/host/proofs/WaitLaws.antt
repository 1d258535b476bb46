-- A wait is read back from its number; and whether it is over, in numbers that cannot be too large.
use Rattle.std.proofs.Common.{◌≡◌, ℕ, zero, suc, ◌+◌, ◌-◌, ◌≤◌, Bool, true, false, leb, refl, ap, ◌∙◌, add-one, arith, le-leb, leb-false, leb-true}
use borrow.Author.Tests.{lt-leb}
use Rattle.model.specs.Clock.{over_by}
use Rattle.host.specs.Waits.{wait_number, wait_of}
use Rattle.std.specs.Prelude.{Some, None}
use Rattle.model.specs.State.{Wait}

pub wait_back : (w : Wait) → wait_of (wait_number w) ≡ w
unfolding wait_number wait_of
wait_back None = refl
wait_back (Some n) = ap wait_of (add-one n)

module _ (time start : ℕ) where
  pub never_over : (wait : ℕ) → (1 ≤ wait → ⊥) → over_by time start (wait_of wait) ≡ false
  unfolding over_by wait_of
  never_over zero none = refl
  never_over (suc n) none = absurd (none (omega arith))

  -- a wait: the sum of the rule, and the difference, which there is from the start on
  module _ (wait : ℕ) (some : 1 ≤ wait) where
    over_sum : over_by time start (wait_of wait) ≡ leb (start + (wait - 1)) time
    unfolding over_by wait_of
    over_sum = go wait some
      where
        go : (w : ℕ) → 1 ≤ w → over_by time start (wait_of w) ≡ leb (start + (w - 1)) time
        go zero s = absurd (omega arith)
        go (suc n) s = let e : n ≡ suc n - 1 = omega arith in ap (λ (m : ℕ). leb (start + m) time) e

    pub not_begun : (start ≤ time → ⊥) → over_by time start (wait_of wait) ≡ false
    not_begun none = over_sum ∙ lt-leb (start + (wait - 1)) time (omega arith)

    pub over_difference : start ≤ time → over_by time start (wait_of wait) ≡ leb (wait - 1) (time - start)
    over_difference l = over_sum ∙ go (leb (wait - 1) (time - start)) refl
      where
        go : (b : Bool) → leb (wait - 1) (time - start) ≡ b → leb (start + (wait - 1)) time ≡ b
        go true e = le-leb (start + (wait - 1)) time (omega (arith, leb-true (wait - 1) (time - start) e))
        go false e = lt-leb (start + (wait - 1)) time (omega (arith, leb-false (wait - 1) (time - start) e))
