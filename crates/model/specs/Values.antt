-- "Each value 4 signed": the values of a whole set, as the bytes that are handed in hold them, little-endian.
use Rattle.std.specs.Prelude.{ℕ, zero, suc, ◌+◌, ◌*◌, ◌-◌, ◌/◌, cond, List, [], ◌∷◌, ltb, length, get_or, ℤ, pos, negsuc, nat_abs}
use Rattle.model.specs.Limits.{value_bytes}
use Rattle.model.specs.Operation.{two}

-- two halves, little-endian
abbrev pub four : ℕ → ℕ → ℕ
four low high = low + 65536 * high

-- thirty-two bits in two's complement
unfoldable pub signed32 : ℕ → ℤ
signed32 n = cond (ltb n 2147483648) (pos n) (negsuc (4294967295 - n))

-- the value whose four bytes begin at a place
abbrev pub value_at : List ℕ → ℕ → ℤ
value_at bytes at =
    signed32 (four (two (get_or bytes at 0) (get_or bytes (at + 1) 0)) (two (get_or bytes (at + 2) 0) (get_or bytes (at + 3) 0)))

-- so many values from a place on
unfoldable pub values_from : List ℕ → ℕ → ℕ → List ℤ
values_from bytes at zero = []
values_from bytes at (suc n) = value_at bytes at ∷ values_from bytes (at + value_bytes) n

-- the values that these bytes hold
abbrev pub values_in : List ℕ → List ℤ
values_in bytes = values_from bytes 0 (length bytes / value_bytes)

-- .. as semaphores hold them, once they are tested
unfoldable pub held : List ℤ → List ℕ
held [] = []
held (v ∷ vs) = nat_abs v ∷ held vs
