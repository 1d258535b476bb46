-- "Wait counts are worked out, not stored".
use Rattle.std.specs.Prelude.{ℕ, ◌+◌, Bool, cond, not, ◌&&◌, List, [], ◌∷◌, eqb, get_or, pos}
use Rattle.model.specs.declared.Operation.{Operation}
use Rattle.model.specs.State.{Table, Sleeper}
use Rattle.model.specs.Operation.{operations_of, is_negative}
use Rattle.model.specs.Look.{look}
use Rattle.model.specs.Marks.{mine}
use Rattle.model.specs.Waking.{could_finish}

-- what stands past the end of an array
abbrev pub no_operation : Operation
no_operation = record { number = 0; amount = pos 0; flags = 0 }

-- "the operation where it now stops"
unfoldable pub stop : Table → Sleeper → Operation
stop t s = get_or (operations_of s.array) (look t s).position no_operation

-- does the sleeper stop at this semaphore?
unfoldable pub stops_at : Table → ℕ → ℕ → Sleeper → Bool
stops_at t slot number s = mine slot s && (not (could_finish t s) && eqb (stop t s).number number)

-- "under "for increase" if that amount is negative, else "for zero""
unfoldable pub for_increase : Table → ℕ → ℕ → Sleeper → Bool
for_increase t slot number s = stops_at t slot number s && is_negative (stop t s).amount

unfoldable pub for_zero : Table → ℕ → ℕ → Sleeper → Bool
for_zero t slot number s = stops_at t slot number s && not (is_negative (stop t s).amount)

-- "a sleeper counts once": how many of the queue pass the test
unfoldable pub count_of : (Sleeper → Bool) → List Sleeper → ℕ
count_of test [] = 0
count_of test (s ∷ q) = cond (test s) 1 0 + count_of test q

-- "how many arrays it judged: exactly the set's sleepers, each once"
abbrev pub judged_at : ℕ → List Sleeper → ℕ
judged_at slot q = count_of (mine slot) q
