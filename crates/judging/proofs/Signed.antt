-- Signed numbers of sixteen bits in thirty-two: sums fit, and a widened number is the number.
use mathlib.Core.Path.{◌≡◌, refl, sym, ◌∙◌, ap}
use mathlib.Core.Bool.{Bool, true, false, cond, not}
use Prim.Native.Nat.{ℕ, zero, suc, ◌+◌, ◌-◌, ◌^◌, ◌<◌, ◌≤◌}
use native.Mathlib.Omega.{arith}
use lib.Dec.{T, ltb}
use lib.IntN.{ℤ, pos, negsuc, nat_abs, neg_ℤ, sub_ℕ, ◌+ℤ◌, ◌-ℤ◌, +ℤ_idl, neg_ℤ-neg_ℤ}
use lib.Signed.{mag, lt_z, le_z, non_neg, nat_abs-le}
use mir.Syntax.{w16, w32}
use mir.Val.{SFits, Fits, to_z, of_z}
use mir.Facts.{to_z-of_z, to_z_pos, sfits_widen}
use Rattle.std.specs.Int.{int_min, int_max}
use borrow.Author.Tests.{ltb-true, ltb-false, leb-true, leb-false, lt-ltb, le-ltb}

-- a test that has both answers
pub clash {ℓ} : {X : Type ℓ} → false ≡ true → X
clash e = let z : ◌≡◌ {A = ℕ} 0 1 = cc in absurd (no z)
  where
    no : ◌≡◌ {A = ℕ} 0 1 → ⊥
    no z = omega arith

-- ---- sizes

mag_size : (z : ℤ) → mag z ≤ nat_abs z
mag_size (pos n) = omega arith
mag_size (negsuc n) = omega arith

-- a number of small size fits 32 bits
small : (z : ℤ) → nat_abs z < 2 ^ 31 → SFits w32 z
small z h = record { sfits = omega (arith, mag_size z) }

size_cond : (t : Bool) (a b : ℕ) → ltb a b ≡ t → nat_abs (cond t (negsuc (b - suc a)) (pos (a - b))) ≤ a + b
size_cond true a b h = omega (arith, ltb-true a b h)
size_cond false a b h = omega arith

size_sub : (a b : ℕ) → nat_abs (sub_ℕ a b) ≤ a + b
size_sub a b = size_cond (ltb a b) a b refl

size_add : (a b : ℤ) → nat_abs (a +ℤ b) ≤ nat_abs a + nat_abs b
size_add (pos a) (pos b) = omega arith
size_add (pos a) (negsuc b) = size_sub a (suc b)
size_add (negsuc a) (pos b) = omega (arith, size_sub b (suc a))
size_add (negsuc a) (negsuc b) = omega arith

size_neg : (z : ℤ) → nat_abs (neg_ℤ z) ≡ nat_abs z
size_neg (pos zero) = refl
size_neg (pos (suc n)) = refl
size_neg (negsuc n) = refl

-- the size of a signed number of sixteen bits
size16 : {z : ℤ} → SFits w16 z → nat_abs z ≤ 32768
size16 {z} h = nat_abs-le z h.sfits

-- ---- a sum, a difference and a magnitude, as the code takes them in 32 bits

-- sixteen bits with a sign, widened
pub wide : {z : ℤ} → SFits w16 z → SFits w32 (to_z w16 (of_z w16 z))
wide h = rw (to_z-of_z h) (sfits_widen tt h)

abbrev pub widened : ℤ → ℤ
widened z = to_z w32 (of_z w32 (to_z w16 (of_z w16 z)))

pub wide_is : {z : ℤ} → SFits w16 z → widened z ≡ z
wide_is {z} h = ap (λ (y : ℤ). to_z w32 (of_z w32 y)) (to_z-of_z {w = w16} {z = z} h) ∙ to_z-of_z {w = w32} {z = z} (sfits_widen tt h)

-- and without
pub value_is : {v : ℕ} → Fits w16 v → to_z w32 v ≡ pos v
value_is f = to_z_pos w32 (omega (arith, f.fits))

module _ {v : ℕ} {z : ℤ} (f : Fits w16 v) (h : SFits w16 z) where
  pub sum_fits : SFits w32 (to_z w32 v +ℤ widened z)
  sum_fits = rw (value_is f, wide_is h) (small (pos v +ℤ z) (omega (arith, size_add (pos v) z, size16 h, f.fits)))

  pub sum_is : to_z w32 (of_z w32 (to_z w32 v +ℤ widened z)) ≡ pos v +ℤ z
  sum_is = to_z-of_z sum_fits ∙ rw (value_is f, wide_is h)

module _ {a z : ℤ} (k : SFits w16 a) (h : SFits w16 z) where
  pub difference_fits : SFits w32 (widened a -ℤ widened z)
  difference_fits = rw (wide_is k, wide_is h) (small (a -ℤ z) (omega (arith, size_add a (neg_ℤ z), size_neg z, size16 k, size16 h)))

  pub difference_is : to_z w32 (of_z w32 (widened a -ℤ widened z)) ≡ a -ℤ z
  difference_is = to_z-of_z difference_fits ∙ rw (wide_is k, wide_is h)

-- an amount taken off 0, and that off a value
module _ {z : ℤ} (h : SFits w16 z) where
  pub magnitude_fits : SFits w32 (pos 0 -ℤ widened z)
  magnitude_fits = rw (wide_is h) (small (pos 0 -ℤ z) (omega (arith, size_add (pos 0) (neg_ℤ z), size_neg z, size16 h)))

  magnitude_is : to_z w32 (of_z w32 (pos 0 -ℤ widened z)) ≡ pos 0 -ℤ z
  magnitude_is = to_z-of_z magnitude_fits ∙ rw (wide_is h)

  module _ {v : ℕ} (f : Fits w16 v) where
    less_is : to_z w32 v -ℤ to_z w32 (of_z w32 (pos 0 -ℤ widened z)) ≡ pos v +ℤ z
    less_is = rw (value_is f, magnitude_is, +ℤ_idl (neg_ℤ z), neg_ℤ-neg_ℤ z)

    pub less_fits : SFits w32 (to_z w32 v -ℤ to_z w32 (of_z w32 (pos 0 -ℤ widened z)))
    less_fits = rw less_is (small (pos v +ℤ z) (omega (arith, size_add (pos v) z, size16 h, f.fits)))

    pub moved_is : to_z w32 (of_z w32 (to_z w32 v -ℤ to_z w32 (of_z w32 (pos 0 -ℤ widened z)))) ≡ pos v +ℤ z
    moved_is = to_z-of_z less_fits ∙ less_is

-- ---- what can be cast back

-- what is at least -32,767 and at most 32,767 fits sixteen bits
pub between : (z : ℤ) → lt_z z (negsuc 32766) ≡ false → lt_z (pos 32767) z ≡ false → SFits w16 z
between (pos n) h k = record { sfits = omega (arith, ltb-false 32767 n k) }
between (negsuc n) h k = record { sfits = omega (arith, ltb-false 32766 n h) }

-- a test of at most, as one of less
pub at_most : (a b : ℤ) (t : Bool) → le_z a b ≡ t → lt_z b a ≡ not t
at_most (pos m) (pos n) true e = le-ltb n m (leb-true m n e)
at_most (pos m) (pos n) false e = lt-ltb n m (leb-false m n e)
at_most (pos m) (negsuc n) t e = rw (← e)
at_most (negsuc m) (pos n) t e = rw (← e)
at_most (negsuc m) (negsuc n) true e = le-ltb m n (leb-true n m e)
at_most (negsuc m) (negsuc n) false e = lt-ltb m n (leb-false n m e)

-- what is not below 0 and at most 32,767 can be cast to sixteen bits without a sign
pub unsigned : (z : ℤ) → lt_z z (pos 0) ≡ false → lt_z (pos 32767) z ≡ false → T (non_neg z) × Fits w16 (nat_abs z)
unsigned (pos n) h k = (tt, record { fits = omega (arith, ltb-false 32767 n k) })
unsigned (negsuc n) h k = clash (sym h)

-- what is cut to 0 to 32,767 is by the two tests of less
by_top : (n : ℕ) (t : Bool) → ltb 32767 n ≡ t → nat_abs (int_max (pos 0) (int_min (pos n) (pos 32767))) ≡ cond (ltb n 0) 0 (cond (ltb 32767 n) 32767 n)
by_top n true e = rw (e, le-ltb n 0 (omega arith))
by_top n false e = rw (e, le-ltb n 0 (omega arith))

pub clamped : (z : ℤ) → nat_abs (int_max (pos 0) (int_min z (pos 32767))) ≡ cond (lt_z z (pos 0)) 0 (cond (lt_z (pos 32767) z) 32767 (nat_abs z))
clamped (pos n) = by_top n (ltb 32767 n) refl
clamped (negsuc n) = refl
