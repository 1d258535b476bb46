-- Masks: marks have a bit for each process, touched and named semaphores a bit for each number of a set.
use Rattle.std.specs.Prelude.{ℕ, zero, suc, ◌+◌, ◌-◌, ◌^◌, Bool, cond, ◌&&◌, List, [], ◌∷◌, eqb}
use Rattle.std.specs.Int.Bits.{bit_or, bit_xor}
use Rattle.model.specs.declared.Operation.{Operation}
use Rattle.model.specs.State.{Sleeper}
use Rattle.model.specs.Operation.{operations_of, has_bit}

-- "process p has bit p-1"
abbrev pub bit_of : ℕ → ℕ
bit_of process = 2 ^ (process - 1)

-- "each look takes the mark off" (it is on)
unfoldable pub unmark : ℕ → Sleeper → ℕ
unmark marks s = bit_xor marks (bit_of s.process)

unfoldable pub marked : ℕ → Sleeper → Bool
marked marks s = has_bit marks (bit_of s.process)

-- the mask m, and in it the semaphores that the operations name
unfoldable pub named_by : ℕ → List Operation → ℕ
named_by m [] = m
named_by m (o ∷ os) = named_by (bit_or m (2 ^ o.number)) os

-- the semaphores that a sleeper's array names
abbrev pub named : Sleeper → ℕ
named s = named_by 0 (operations_of s.array)

-- "values that now differ": the mask m, and in it the numbers, from i on, at which two lists of values differ
unfoldable pub differing : ℕ → ℕ → List ℕ → List ℕ → ℕ
differing m i [] ys = m
differing m i (x ∷ xs) [] = m
differing m i (x ∷ xs) (y ∷ ys) = differing (cond (eqb x y) m (bit_or m (2 ^ i))) (i + 1) xs ys

-- "every semaphore touched": the numbers of a set with so many semaphores
unfoldable pub every_number : ℕ → ℕ
every_number zero = 0
every_number (suc n) = bit_or (every_number n) (2 ^ n)

-- is the sleeper of this set?
unfoldable pub mine : ℕ → Sleeper → Bool
mine slot s = eqb s.slot slot

-- "a sleeper is marked if its array names a touched semaphore"; a semaphore is set and number
abbrev pub concerned : ℕ → ℕ → Sleeper → Bool
concerned slot touched s = mine slot s && has_bit (named s) touched

-- the mask m, and in it the processes of those sleepers for whom the test holds
unfoldable pub mask_of : (Sleeper → Bool) → ℕ → List Sleeper → ℕ
mask_of test m [] = m
mask_of test m (s ∷ q) = mask_of test (cond (test s) (bit_or m (bit_of s.process)) m) q

-- the marks, and the sleepers of the slot that name a touched semaphore
abbrev pub mark_touched : ℕ → ℕ → ℕ → List Sleeper → ℕ
mark_touched slot touched m q = mask_of (concerned slot touched) m q
