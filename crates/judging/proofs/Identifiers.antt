-- A signed number of 32 bits, by the test whether it is below 0.
use mathlib.Core.Path.{◌≡◌, refl, sym, ◌∙◌}
use mathlib.Core.Bool.{true, false}
use native.Mathlib.Omega.{arith}
use lib.Dec.{T}
use lib.IntN.{ℤ, pos, negsuc, nat_abs}
use lib.Signed.{mag, lt_z, non_neg}
use mir.Syntax.{w16, w32, w64}
use mir.Val.{SFits, Fits, to_z, of_z}
use mir.Facts.{to_z-of_z, Fits-nat_abs}
use borrow.Author.Tests.{le-ltb, leb-true}
use Prim.Native.Nat.{ℕ, ◌%◌}
use Rattle.std.specs.Int.{FitsUnsignedBits}
use Rattle.model.specs.Limits.{slots}
use Rattle.model.specs.Checks.{in_range, slot_of}
use Rattle.judging.proofs.Signed.{clash}

natural_is : (z : ℤ) → lt_z z (pos 0) ≡ false → z ≡ pos (nat_abs z)
natural_is (pos n) t = refl
natural_is (negsuc n) t = clash (sym t)

negative_is : (z : ℤ) → lt_z z (pos 0) ≡ true → z ≡ negsuc (mag z)
negative_is (pos n) t = clash (sym (le-ltb n 0 (omega arith)) ∙ t)
negative_is (negsuc n) t = refl

unsigned_is : (z : ℤ) → lt_z z (pos 0) ≡ false → T (non_neg z)
unsigned_is (pos n) t = tt
unsigned_is (negsuc n) t = clash (sym t)

module _ {z : ℤ} (h : SFits w32 z) where
  pub natural : lt_z (to_z w32 (of_z w32 z)) (pos 0) ≡ false → z ≡ pos (nat_abs z)
  natural t = natural_is z (rw (to_z-of_z h) at t)

  pub negative : lt_z (to_z w32 (of_z w32 z)) (pos 0) ≡ true → z ≡ negsuc (mag z)
  negative t = negative_is z (rw (to_z-of_z h) at t)

  pub widens : lt_z (to_z w32 (of_z w32 z)) (pos 0) ≡ false → T (non_neg (to_z w32 (of_z w32 z))) × Fits w64 (nat_abs (to_z w32 (of_z w32 z)))
  widens t = rw (to_z-of_z h) (unsigned_is z (rw (to_z-of_z h) at t), Fits-nat_abs tt h)

-- a value in range can be cast to sixteen bits
pub ranged : (z : ℤ) → in_range z ≡ true → T (non_neg z) × Fits w16 (nat_abs z)
unfolding in_range
ranged (pos n) t = (tt, record { fits = omega (arith, leb-true n 32767 t) })
ranged (negsuc n) t = clash t

-- an identifier is a number without a sign, or negative
pub slot_found : (z : ℤ) → FitsUnsignedBits 64 z → {n : ℕ} → n ≡ nat_abs z → n % slots ≡ slot_of z
unfolding slot_of
slot_found (pos i) f e = rw e
slot_found (negsuc i) f e = absurd f

pub slot_none : (z : ℤ) → SFits w32 z → (FitsUnsignedBits 64 z → ⊥) → 0 ≡ slot_of z
unfolding slot_of
slot_none (pos i) h f = absurd (f (omega (arith, h.sfits)))
slot_none (negsuc i) h f = refl
