-- The operations of an array, one at a time, as a loop over its bytes reads them.
use mathlib.Core.Path.{◌≡◌}
use mathlib.Core.List.{List, [], ◌∷◌}
use Prim.Native.Nat.{ℕ, suc, ◌+◌, ◌*◌, ◌-◌, ◌/◌, ◌<◌}
use native.Mathlib.Omega.{arith}
use lib.ListN.{length, get_or}
use Rattle.std.specs.Simd.{first_chunks}
use Rattle.model.specs.declared.Operation.{Operation}
use Rattle.model.specs.Operation.{operation_at, operations_from, operations_of}
use Rattle.judging.proofs.Pieces.{byte_is}

-- the operations from the i-th on
abbrev pub rest : List ℕ → ℕ → List Operation
rest bytes i = operations_from bytes (i * 6) (length bytes / 6 - i)

module _ (bytes : List ℕ) where
  pub all : rest bytes 0 ≡ operations_of bytes
  all = let e : length bytes / 6 - 0 ≡ length bytes / 6 = omega arith in rw e

  pub first : (i : ℕ) → i < length bytes / 6 → rest bytes i ≡ operation_at bytes (i * 6) ∷ rest bytes (i + 1)
  unfolding operations_from
  first i h =
      let e : length bytes / 6 - i ≡ suc (length bytes / 6 - (i + 1)) = omega arith in
      let f : i * 6 + 6 ≡ (i + 1) * 6 = omega arith in
      rw (e, f)

  pub none : (i : ℕ) → i ≡ length bytes / 6 → rest bytes i ≡ []
  unfolding operations_from
  none i h = let e : length bytes / 6 - i ≡ 0 = omega arith in rw e

  -- the i-th of the pieces that they are cut into
  pub of_piece : (pieces : List (List ℕ)) (i : ℕ) (d : List ℕ) → pieces ≡ first_chunks 6 (length bytes / 6) bytes → i < length bytes / 6 → operation_at (get_or pieces i d) 0 ≡ operation_at bytes (i * 6)
  of_piece pieces i d cut h =
      let e : i * 6 + 0 ≡ i * 6 = omega arith in
      let byte : (j : ℕ) → j < 6 → get_or (get_or pieces i d) j 0 ≡ get_or bytes (i * 6 + j) 0 = byte_is 6 (length bytes / 6) i bytes d pieces cut h in
      rw (byte 0 (omega arith), byte 1 (omega arith), byte 2 (omega arith), byte 3 (omega arith), byte 4 (omega arith), byte 5 (omega arith), e)
