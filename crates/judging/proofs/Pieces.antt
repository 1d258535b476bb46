-- Bytes that are cut into pieces of one size, as `as_chunks` does: what is read from a piece is read from its place in the
-- whole. And what std reads from bytes, little-endian, in the words of the model.
use Rattle.std.proofs.Common.{◌≡◌, ℕ, zero, suc, ◌+◌, ◌*◌, ◌<◌, List, get_or, take, drop, ap, ◌∙◌, arith}
use Rattle.std.specs.Simd.{first_chunks}
use Rattle.std.proofs.lemmas.List.{drop-drop}
use Rattle.std.proofs.lemmas.Simd.{get_or-chunk}
use mir.Syntax.{w16, w32}
use mir.Val.{to_z}
use Rattle.model.specs.Operation.{two, signed16}
use Rattle.model.specs.Values.{four, signed32}

-- ---- the i-th of k pieces of n bytes

piece_is : (n k i : ℕ) (xs d : List ℕ) → i < k → get_or (first_chunks n k xs) i d ≡ take n (drop (i * n) xs)
piece_is n zero i xs d h = absurd (omega arith)
piece_is n (suc k) zero xs d h = let e : 0 * n ≡ 0 = omega arith in rw e
piece_is n (suc k) (suc i) xs d h =
    let e : n + i * n ≡ suc i * n = omega arith in
    piece_is n k i (drop n xs) d (omega arith) ∙ ap (take n) (drop-drop (i * n) n xs ∙ rw e)

pub byte_is : (n k i : ℕ) (xs d : List ℕ) (pieces : List (List ℕ)) → pieces ≡ first_chunks n k xs → i < k → (j : ℕ) → j < n → get_or (get_or pieces i d) j 0 ≡ get_or xs (i * n + j) 0
byte_is n k i xs d pieces cut h j l = rw (cut, piece_is n k i xs d h) (get_or-chunk (i * n) n xs j 0 l)

-- ---- numbers, little-endian and in two's complement

signed16_is : (n : ℕ) → n < 65536 → to_z w16 n ≡ signed16 n
unfolding signed16
signed16_is n h = grind arith

signed32_is : (n : ℕ) → n < 4294967296 → to_z w32 n ≡ signed32 n
unfolding signed32
signed32_is n h = grind arith

pub two_is : (a b : ℕ) → a + b * 256 ≡ two a b
two_is a b = omega arith

pub signed_two_is : (a b : ℕ) → a < 256 → b < 256 → to_z w16 (a + b * 256) ≡ signed16 (two a b)
signed_two_is a b f g = signed16_is _ (omega arith) ∙ ap signed16 (two_is a b)

pub signed_four_is : (a b c d : ℕ) → a < 256 → b < 256 → c < 256 → d < 256 → to_z w32 (((a + b * 256) + c * 65536) + d * 16777216) ≡ signed32 (four (two a b) (two c d))
signed_four_is a b c d e f g h = signed32_is _ (omega arith) ∙ ap signed32 (omega arith)
