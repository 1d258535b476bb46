-- The mask of the semaphores that operations name: a bit for each number of a set. A number is taken within a set.
use Rattle.std.specs.Prelude.{ℕ, ◌%◌, ◌^◌, List, [], ◌∷◌}
use Rattle.std.specs.Int.Bits.{bit_or}
use Rattle.model.specs.declared.Operation.{Operation}
use Rattle.model.specs.Limits.{semaphores}

abbrev pub number_bit : ℕ → ℕ
number_bit n = 2 ^ (n % semaphores)

-- the mask m, and in it the bits of the operations: `named_by` of the model, if every number is one of a set
-- (proofs/NamedLaws.antt)
unfoldable pub named_within : ℕ → List Operation → ℕ
named_within m [] = m
named_within m (o ∷ os) = named_within (bit_or m (number_bit o.number)) os
