-- The values of a setting, in the bytes that hold them.
use mathlib.Core.Path.{◌≡◌, refl, ap, ap₂, ◌∙◌}
use mathlib.Core.Bool.{Bool, true, ◌&&◌}
use mathlib.Core.List.{List, [], ◌∷◌, map}
use Prim.Native.Nat.{ℕ, zero, suc, ◌+◌, ◌*◌, ◌/◌, ◌≤◌, ◌<◌}
use native.Mathlib.Omega.{arith}
use lib.ListN.{length, get_or, take, drop}
use lib.IntN.{ℤ}
use Rattle.std.specs.List.{list_all}
use Rattle.std.specs.Simd.{first_chunks}
use Rattle.std.proofs.lemmas.List.{drop-drop}
use Rattle.std.proofs.lemmas.Simd.{get_or-chunk}
use Rattle.model.specs.Limits.{value_bytes}
use Rattle.model.specs.Checks.{in_range, all_in_range}
use Rattle.model.specs.Values.{value_at, values_from, values_in, held}
use Rattle.model.proofs.CheckLaws.{and_true}
use Rattle.judging.specs.Value.{value_of, values_held}
use Rattle.judging.proofs.Pieces.{byte_is}

-- ---- by the pieces of four bytes that they are cut into

pub of_piece : (bytes : List ℕ) (pieces : List (List ℕ)) (i : ℕ) (d : List ℕ) → pieces ≡ first_chunks 4 (length bytes / 4) bytes → i < length bytes / 4 → value_at (get_or pieces i d) 0 ≡ value_at bytes (i * 4)
of_piece bytes pieces i d cut h =
    let e : i * 4 + 0 ≡ i * 4 = omega arith in
    let byte : (j : ℕ) → j < 4 → get_or (get_or pieces i d) j 0 ≡ get_or bytes (i * 4 + j) 0 = byte_is 4 (length bytes / 4) i bytes d pieces cut h in
    rw (byte 0 (omega arith), byte 1 (omega arith), byte 2 (omega arith), byte 3 (omega arith), e)

abbrev of_pieces : List (List ℕ) → List ℤ
of_pieces pieces = map (λ (p : List ℕ). value_at p 0) pieces

pieces_from : (bytes : List ℕ) (at k : ℕ) → of_pieces (first_chunks 4 k (drop at bytes)) ≡ values_from bytes at k
unfolding values_from
pieces_from bytes at zero = refl
pieces_from bytes at (suc k) =
    let e : drop 4 (drop at bytes) ≡ drop (at + 4) bytes = drop-drop 4 at bytes in
    let byte : (j : ℕ) → j < 4 → get_or (take 4 (drop at bytes)) j 0 ≡ get_or bytes (at + j) 0 = λ j l. get_or-chunk at 4 bytes j 0 l in
    let z : at + 0 ≡ at = omega arith in
    ap₂ ◌∷◌ (rw (byte 0 (omega arith), byte 1 (omega arith), byte 2 (omega arith), byte 3 (omega arith), z)) (ap (λ (l : List ℕ). of_pieces (first_chunks 4 k l)) e ∙ pieces_from bytes (at + 4) k)

each_in_range : (pieces : List (List ℕ)) → list_all (λ (p : List ℕ). in_range (value_at p 0)) pieces ≡ all_in_range (of_pieces pieces)
unfolding all_in_range
each_in_range [] = refl
each_in_range (p ∷ ps) = ap (λ (b : Bool). in_range (value_at p 0) && b) (each_in_range ps)

pub pieces_in_range : (bytes : List ℕ) (pieces : List (List ℕ)) → pieces ≡ first_chunks 4 (length bytes / 4) bytes → list_all (λ (p : List ℕ). in_range (value_at p 0)) pieces ≡ all_in_range (values_in bytes)
pieces_in_range bytes pieces cut = each_in_range pieces ∙ ap all_in_range (rw cut (pieces_from bytes 0 (length bytes / 4)))

-- ---- as semaphores hold them

-- values in range are held as they are
pub all_held : (vs : List ℤ) → all_in_range vs ≡ true → values_held vs ≡ held vs
unfolding all_in_range values_held value_of held
all_held [] e = refl
all_held (v ∷ vs) e = let x = and_true (in_range v) (all_in_range vs) e in rw (x.0, all_held vs x.1)

pub length_held : (bytes : List ℕ) → length (values_held (values_in bytes)) ≡ length bytes / value_bytes
unfolding values_from values_held
length_held bytes = go 0 (length bytes / value_bytes)
  where
    go : (at n : ℕ) → length (values_held (values_from bytes at n)) ≡ n
    go at zero = refl
    go at (suc n) = ap suc (go (at + value_bytes) n)

-- the i-th of them
value_from : (bytes : List ℕ) (at n i : ℕ) → i < n → get_or (values_held (values_from bytes at n)) i 0 ≡ value_of (value_at bytes (at + i * value_bytes))
unfolding values_from values_held
value_from bytes at zero i h = absurd (omega arith)
value_from bytes at (suc n) zero h = let e : at + 0 * value_bytes ≡ at = omega arith in rw e
value_from bytes at (suc n) (suc i) h = let e : at + suc i * value_bytes ≡ at + value_bytes + i * value_bytes = omega arith in rw e (value_from bytes (at + value_bytes) n i (omega arith))

pub value_first : (bytes : List ℕ) (i : ℕ) → i < length bytes / value_bytes → get_or (values_held (values_in bytes)) i 0 ≡ value_of (value_at bytes (i * value_bytes))
value_first bytes i h = let e : 0 + i * value_bytes ≡ i * value_bytes = omega arith in rw e at (value_from bytes 0 (length bytes / value_bytes) i h)

value_beyond : (bytes : List ℕ) (at n i : ℕ) → n ≤ i → get_or (values_held (values_from bytes at n)) i 0 ≡ 0
unfolding values_from values_held
value_beyond bytes at zero i h = refl
value_beyond bytes at (suc n) zero h = absurd (omega arith)
value_beyond bytes at (suc n) (suc i) h = value_beyond bytes (at + value_bytes) n i (omega arith)

pub value_none : (bytes : List ℕ) (i : ℕ) → length bytes / value_bytes ≤ i → get_or (values_held (values_in bytes)) i 0 ≡ 0
value_none bytes i h = value_beyond bytes 0 (length bytes / value_bytes) i h
