-- The model's definitions on amounts, by the tests that the code makes of a signed number.
use mathlib.Core.Path.{◌≡◌, refl, sym, ◌∙◌}
use mathlib.Core.Bool.{Bool, true, false, cond, ◌&&◌}
use Prim.Native.Nat.{ℕ, zero, suc, ◌+◌, ◌-◌, ◌<◌}
use native.Mathlib.Nat.{zero-add}
use native.Mathlib.Omega.{arith}
use lib.Dec.{T, ltb, eqb}
use lib.IntN.{ℤ, pos, negsuc, nat_abs, neg_ℤ, +ℤ_idl}
use lib.Signed.{lt_z, non_neg}
use mir.Syntax.{w16}
use mir.Val.{SFits, Fits, to_z, of_z}
use mir.Facts.{to_z-of_z}
use borrow.Author.Tests.{lt-ltb, le-ltb, ne_eqb}
use Rattle.model.specs.Operation.{is_zero, is_negative}
use Rattle.model.specs.Judge.{next_value, next_adjustment}
use Rattle.judging.specs.Stop.{moved_to}
use Rattle.judging.proofs.Signed.{clash}
use Rattle.std.specs.Prelude.{Some, Ok, Err, Result}
use Rattle.model.specs.declared.Halt.{Halt}
use Rattle.model.specs.declared.Halt.TheVariants.{Over, Stop}

-- the next value by the tests of where the amount leads
abbrev pub tested : ℤ → ℤ → Result ℕ Halt
tested new z = cond (lt_z new (pos 0)) (Err Stop) (cond (lt_z (pos 32767) new && lt_z (pos 0) z) (Err Over) (Ok (nat_abs new)))

pub next_is : (v : ℕ) (z : ℤ) → next_value v z ≡ tested (moved_to v z) z
unfolding next_value is_zero
next_is zero (pos zero) = refl
next_is (suc v) (pos zero) = rw (ne_eqb (suc v) 0 (λ e. omega arith), lt-ltb 0 (suc v) (omega arith))
next_is v (pos (suc n)) = rw (ne_eqb (suc n) 0 (λ e. omega arith), le-ltb (v + suc n) 0 (omega arith), lt-ltb 0 (suc n) (omega arith)) (above (ltb 32767 (v + suc n)))
  where
    above : (b : Bool) → cond b (Err Over) (Ok (v + suc n)) ≡ cond (b && true) (Err Over) (Ok (v + suc n))
    above true = refl
    above false = refl
next_is v (negsuc n) = lowered (ltb v (suc n))
  where
    either : (b : Bool) → Ok (v - suc n) ≡ cond (b && false) (Err Over) (Ok (v - suc n))
    either true = refl
    either false = refl

    lowered : (b : Bool) → cond b (Err Stop) (Ok (v - suc n)) ≡ tested (cond b (negsuc (suc n - suc v)) (pos (v - suc n))) (negsuc n)
    lowered true = refl
    lowered false = rw (le-ltb (v - suc n) 0 (omega arith)) (either (ltb 32767 (v - suc n)))

-- an amount of 0
pub next_zero : (v : ℕ) (z : ℤ) → is_zero z ≡ true → next_value v z ≡ cond (eqb v 0) (Ok v) (Err Stop)
unfolding next_value is_zero
next_zero v (pos zero) h = refl
next_zero v (pos (suc n)) h = clash (sym (ne_eqb (suc n) 0 (λ e. omega arith)) ∙ h)
next_zero v (negsuc n) h = clash h

-- where an amount that is not above 0 leads can be cast to sixteen bits, if it is not below 0
pub lowered_fits : (v : ℕ) (z : ℤ) → Fits w16 v → lt_z (moved_to v z) (pos 0) ≡ false → lt_z (pos 0) z ≡ false → T (non_neg (moved_to v z)) × Fits w16 (nat_abs (moved_to v z))
unfolding is_zero
lowered_fits zero (pos zero) f h k = (tt, record { fits = omega arith })
lowered_fits (suc v) (pos zero) f h k = clash (sym (rw (lt-ltb 0 (suc v) (omega arith)) at h))
lowered_fits v (pos (suc n)) f h k = clash (sym k ∙ lt-ltb 0 (suc n) (omega arith))
lowered_fits v (negsuc n) f h k = go (ltb v (suc n)) h
  where
    go : (b : Bool) → lt_z (cond b (negsuc (suc n - suc v)) (pos (v - suc n))) (pos 0) ≡ false
        → T (non_neg (cond b (negsuc (suc n - suc v)) (pos (v - suc n)))) × Fits w16 (nat_abs (cond b (negsuc (suc n - suc v)) (pos (v - suc n))))
    go true e = clash (sym e)
    go false e = (tt, record { fits = omega (arith, f.fits) })

-- ---- the sign of an amount, by its sixteen bits
pub zero_is : {z : ℤ} → SFits w16 z → eqb (of_z w16 z) 0 ≡ is_zero z
unfolding is_zero
zero_is {z = pos n} h = refl
zero_is {z = negsuc n} h = ne_eqb (65536 - suc n) 0 (no h.sfits)
  where
    no : n < 32768 → (65536 - suc n) ≡ 0 → ⊥
    no m e = omega arith

pub negative_is : {z : ℤ} → SFits w16 z → lt_z (to_z w16 (of_z w16 z)) (pos 0) ≡ is_negative z
unfolding is_negative
negative_is {z} h = rw (to_z-of_z h) (below z)
  where
    below : (y : ℤ) → lt_z y (pos 0) ≡ is_negative y
    below (pos n) = le-ltb n 0 (omega arith)
    below (negsuc n) = refl

-- ---- from 0: what is taken off stops, and what is added fits, with its adjustment
pub off_zero : (z : ℤ) → is_negative z ≡ true → next_value 0 z ≡ Err Stop
unfolding next_value is_negative
off_zero (pos n) h = clash h
off_zero (negsuc n) h = rw (lt-ltb 0 (suc n) (omega arith))

pub onto_zero : (z : ℤ) → SFits w16 z → is_negative z ≡ false → next_value 0 z ≡ Ok (nat_abs z)
unfolding next_value is_negative
onto_zero (pos zero) f h = refl
onto_zero (pos (suc n)) f h = rw (zero-add, le-ltb 32767 (suc n) (omega (arith, f.sfits)))
onto_zero (negsuc n) f h = clash (sym h)

pub undo_zero : (z : ℤ) → SFits w16 z → is_negative z ≡ false → next_adjustment (pos 0) z ≡ Some (neg_ℤ z)
unfolding next_adjustment is_negative
undo_zero (pos zero) f h = refl
undo_zero (pos (suc n)) f h = rw (+ℤ_idl (negsuc n), le-ltb 32766 n (omega (arith, f.sfits)))
undo_zero (negsuc n) f h = clash (sym h)
