-- The text that std has of a number is its digits.
use Prim.Native.Nat.{ℕ, suc, ◌%◌, ◌^◌, ◌<◌}
use mathlib.Core.Path.{◌≡◌, sym, ap, ◌∙◌}
use mathlib.Core.List.{List, [], ◌∷◌, ◌++◌}
use native.Mathlib.Omega.{arith}
use lib.IntN.{ℤ, pos, negsuc}
use mir.Syntax.{w32}
use mir.Val.{SFits, to_z, of_z}
use mir.Facts.{to_z-of_z}
use Rattle.std.specs.Fmt.{decimal, signed_decimal}
use Rattle.std.proofs.lemmas.Fmt.{decimal_by_steps}
use Rattle.lines.specs.Text.{digit, digits_of, signed_of}
use Rattle.lines.specs.declared.writer.Writer.{Writer}
use Rattle.lines.specs.Buffer.{Wrote}
use Rattle.lines.proofs.Digits.{digits_one, digits_more}

pub decimal_is : (n : ℕ) → n < 2 ^ 64 → decimal n ≡ digits_of n
decimal_is n h =
    decimal_by_steps
    (λ m ds. ds ≡ digits_of m)
    (λ m k. sym (digits_one m k))
    (λ m ds k e. ap (λ (l : List ℕ). l ++ digit (m % 10) ∷ []) e ∙ sym (digits_more m k))
    n
    h

pub signed_decimal_is : (z : ℤ) → SFits w32 z → signed_decimal z ≡ signed_of z
unfolding signed_of
signed_decimal_is (pos n) h = decimal_is n (omega (arith, h.sfits))
signed_decimal_is (negsuc n) h = ap (λ (l : List ℕ). 45 ∷ l) (decimal_is (suc n) (omega (arith, h.sfits)))

-- a number that was written, as its digits: alone, and behind a byte
module _ {most n : ℕ} {before after : Writer} where
  pub in_digits : Wrote most before (decimal n) after → n < 2 ^ 64 → Wrote most before (digits_of n) after
  in_digits p h = rw (decimal_is n h) at p

  pub marked_digits : {mark : ℕ} → Wrote most before (mark ∷ decimal n) after → n < 2 ^ 64 → Wrote most before (mark ∷ digits_of n) after
  marked_digits p h = rw (decimal_is n h) at p

-- .. and a code
pub marked_code : {most mark : ℕ} {before after : Writer} {z : ℤ} → Wrote most before (mark ∷ signed_decimal (to_z w32 (of_z w32 z))) after → SFits w32 z
    → Wrote most before (mark ∷ signed_of z) after
marked_code {z = z} p h = rw (to_z-of_z h, signed_decimal_is z h) at p
