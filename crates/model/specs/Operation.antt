-- "An operation is six bytes, little-endian: number (16 bits unsigned), amount (16 bits signed), flags (16 bits)."
use Rattle.std.specs.Prelude.{ℕ, zero, suc, ◌+◌, ◌*◌, ◌-◌, ◌/◌, Bool, true, false, not, cond, List, [], ◌∷◌, ltb, eqb, length, get_or, ℤ, pos, negsuc}
use Rattle.std.specs.Int.Bits.{bit_and}
use Rattle.model.specs.declared.Operation.{Operation}
use Rattle.model.specs.Limits.{operation_bytes}

-- two bytes, little-endian
abbrev pub two : ℕ → ℕ → ℕ
two low high = low + 256 * high

-- sixteen bits in two's complement
unfoldable pub signed16 : ℕ → ℤ
signed16 n = cond (ltb n 32768) (pos n) (negsuc (65535 - n))

-- the operation whose six bytes begin at a place
abbrev pub operation_at : List ℕ → ℕ → Operation
operation_at bytes at =
    record {
      number = two (get_or bytes at 0) (get_or bytes (at + 1) 0);
      amount = signed16 (two (get_or bytes (at + 2) 0) (get_or bytes (at + 3) 0));
      flags = two (get_or bytes (at + 4) 0) (get_or bytes (at + 5) 0);
    }

-- so many operations from a place on
unfoldable pub operations_from : List ℕ → ℕ → ℕ → List Operation
operations_from bytes at zero = []
operations_from bytes at (suc n) = operation_at bytes at ∷ operations_from bytes (at + operation_bytes) n

-- the operations that an array of bytes holds
abbrev pub operations_of : List ℕ → List Operation
operations_of bytes = operations_from bytes 0 (length bytes / operation_bytes)

-- is a bit of the mask on?
abbrev pub has_bit : ℕ → ℕ → Bool
has_bit flags mask = not (eqb (bit_and flags mask) 0)

-- "Bit 2,048 is IPC_NOWAIT and bit 4,096 is SEM_UNDO; other bits are ignored."
abbrev pub no_wait : Operation → Bool
no_wait o = has_bit o.flags 2048

abbrev pub with_undo : Operation → Bool
with_undo o = has_bit o.flags 4096

-- is the amount zero; is it below zero?
unfoldable pub is_zero : ℤ → Bool
is_zero (pos n) = eqb n 0
is_zero (negsuc n) = false

unfoldable pub is_negative : ℤ → Bool
is_negative (pos n) = false
is_negative (negsuc n) = true
