-- The numbers in a run file, "little-endian". A byte past the end reads as 0.
use Rattle.std.specs.Prelude.{ℕ, ◌+◌, ◌*◌, List, get_or, ℤ}
use Rattle.model.specs.Operation.{two}
use Rattle.model.specs.Values.{four, signed32}

abbrev pub byte_at : List ℕ → ℕ → ℕ
byte_at file at = get_or file at 0

abbrev pub half_at : List ℕ → ℕ → ℕ
half_at file at = two (byte_at file at) (byte_at file (at + 1))

unfoldable pub word_at : List ℕ → ℕ → ℕ
word_at file at = four (half_at file at) (half_at file (at + 2))

-- two words
abbrev pub eight : ℕ → ℕ → ℕ
eight low high = low + 4294967296 * high

unfoldable pub long_at : List ℕ → ℕ → ℕ
long_at file at = eight (word_at file at) (word_at file (at + 4))

abbrev pub signed_at : List ℕ → ℕ → ℤ
signed_at file at = signed32 (word_at file at)
