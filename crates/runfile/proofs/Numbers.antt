-- Numbers made of bytes by std's `from_le_bytes` are those of specs/Fields.antt.
use Prim.Native.Nat.{ℕ, suc, ◌+◌, ◌*◌, ◌-◌, ◌<◌}
use mathlib.Core.Path.{◌≡◌, refl, sym, ap, ◌∙◌}
use mathlib.Core.List.{List}
use native.Mathlib.Omega.{arith}
use mathlib.Core.Bool.{cond}
use lib.Dec.{ltb}
use lib.IntN.{pos, negsuc}
use lib.ListN.{get_or, take}
use lib.Seq.{get_or-take}
use Rattle.std.specs.Int.{w16, w32, w64, from_le_bytes, cast_signed}
use Rattle.model.specs.Values.{signed32}
use Rattle.runfile.specs.Fields.{byte_at, half_at, word_at, long_at, signed_at}

-- so many bytes from a position on, as `bytes_at` reads them
abbrev pub Reads : ℕ → List ℕ → ℕ → List ℕ → Type 0
Reads n file at bytes = (k : ℕ) → k < n → get_or bytes k 0 ≡ byte_at file (at + k)

-- the first so many bytes, as `first_chunk` gives them
pub first_is : (n : ℕ) (file bytes : List ℕ) → bytes ≡ take n file → Reads n file 0 bytes
first_is n file bytes e k h =
    let z : k ≡ 0 + k = omega arith in
    rw e (get_or-take n file k 0 h) ∙ ap (byte_at file) z

worth_2 : (bytes : List ℕ) → from_le_bytes w16 bytes ≡ get_or bytes 0 0 + get_or bytes 1 0 * 256
worth_2 bytes = refl

worth_4 : (bytes : List ℕ)
    → from_le_bytes w32 bytes ≡ get_or bytes 0 0 + get_or bytes 1 0 * 256 + get_or bytes 2 0 * 65536 + get_or bytes 3 0 * 16777216
worth_4 bytes = refl

worth_8 : (bytes : List ℕ)
    → from_le_bytes w64 bytes
    ≡ get_or bytes 0 0 + get_or bytes 1 0 * 256 + get_or bytes 2 0 * 65536 + get_or bytes 3 0 * 16777216
    + get_or bytes 4 0 * 4294967296 + get_or bytes 5 0 * 1099511627776 + get_or bytes 6 0 * 281474976710656 + get_or bytes 7 0 * 72057594037927936
worth_8 bytes = refl

module _ (file : List ℕ) (at : ℕ) (bytes : List ℕ) where
  read : {n : ℕ} → Reads n file at bytes → (k i : ℕ) → k < n → i ≡ at + k → get_or bytes k 0 ≡ byte_at file i
  read r k i h e = r k h ∙ ap (byte_at file) (sym e)

  pub half_is : Reads 2 file at bytes → from_le_bytes w16 bytes ≡ half_at file at
  half_is r = worth_2 bytes ∙ omega (arith, read r 0 at (omega arith) (omega arith), r 1 (omega arith))

  pub word_is : Reads 4 file at bytes → from_le_bytes w32 bytes ≡ word_at file at
  unfolding word_at
  word_is r =
      let a = read r 0 at (omega arith) (omega arith) in
      let d = read r 3 (at + 2 + 1) (omega arith) (omega arith) in
      worth_4 bytes ∙ omega (arith, a, r 1 (omega arith), r 2 (omega arith), d)

  pub signed_is : Reads 4 file at bytes → cast_signed w32 (from_le_bytes w32 bytes) ≡ signed_at file at
  unfolding signed32
  signed_is r =
      let n = word_at file at in
      let e : 4294967296 - suc n ≡ 4294967295 - n = omega arith in
      ap (cast_signed w32) (word_is r) ∙ ap (λ d. cond (ltb n 2147483648) (pos n) (negsuc d)) e

  pub long_is : Reads 8 file at bytes → from_le_bytes w64 bytes ≡ long_at file at
  unfolding word_at long_at
  long_is r =
      let a = read r 0 at (omega arith) (omega arith) in
      let d = read r 3 (at + 2 + 1) (omega arith) (omega arith) in
      let f = read r 5 (at + 4 + 1) (omega arith) (omega arith) in
      let g = read r 6 (at + 4 + 2) (omega arith) (omega arith) in
      let h = read r 7 (at + 4 + 2 + 1) (omega arith) (omega arith) in
      worth_8 bytes ∙ omega (arith, a, r 1 (omega arith), r 2 (omega arith), d, r 4 (omega arith), f, g, h)
