-- Who waits at the semaphores of a set.
use Rattle.std.specs.Prelude.{ℕ, Bool, cond, List, bit_or, slice_index, slice_set}
use Rattle.model.specs.State.{Table, Sleeper}
use Rattle.model.specs.Marks.{mask_of}
use Rattle.model.specs.Counts.{for_increase, for_zero, judged_at}
use Rattle.model.specs.WholeSet.{each}
use Rattle.service.specs.declared.waiting.Waiters.{Waiters}

-- the masks of those who wait, at each semaphore of a set: for an increase, and for zero
abbrev pub increases_of : Table → ℕ → List Sleeper → List ℕ
increases_of t slot q = each (λ (n : ℕ). mask_of (for_increase t slot n) 0 q)

abbrev pub zeros_of : Table → ℕ → List Sleeper → List ℕ
zeros_of t slot q = each (λ (n : ℕ). mask_of (for_zero t slot n) 0 q)

-- .. and how many arrays are judged for them
abbrev pub waiters_of : Table → ℕ → List Sleeper → Waiters
waiters_of t slot q = record { increase = increases_of t slot q; zero = zeros_of t slot q; judged = judged_at slot q }

-- the masks, with a bit more in the n-th if the test holds
abbrev pub wait_if : Bool → List ℕ → ℕ → ℕ → List ℕ
wait_if b masks n bit = cond b (slice_set masks n (bit_or (slice_index masks n) bit)) masks
