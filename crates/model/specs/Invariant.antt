-- What holds of every state that is fresh or came back from an event.
use Rattle.std.specs.Prelude.{ℕ, ◌+◌, ◌%◌, ◌≤◌, ◌<◌, ◌≡◌, ◌≢◌, List, [], ◌∷◌, length, get_or, ℤ, pos, nat_abs}
use Rattle.model.specs.declared.Set.{Set}
use Rattle.model.specs.declared.Operation.{Operation}
use Rattle.model.specs.Limits.{slots, semaphores, processes, value_max, time_max, operation_bytes, array_bytes, all_semaphores, all_adjustments}
use Rattle.model.specs.State.{Table, Sleeper, State, row, undo_row, free_set, no_set}
use Rattle.model.specs.Operation.{operations_of}
use Rattle.model.specs.Runs.{All, Stuck, InTime}
use Rattle.model.specs.Waking.{World}

-- an undo adjustment: -32,767 to 32,767
abbrev pub Ranged : ℤ → Type 0
Ranged z = nat_abs z ≤ value_max

-- a table has its sizes, and each number its range
pub record Good (t : Table) : Type 0 where
  pub values : length t.values ≡ all_semaphores
  pub lasts : length t.lasts ≡ all_semaphores
  pub adjustments : length t.adjustments ≡ all_adjustments
  pub small : All (λ (v : ℕ). v ≤ value_max) t.values
  pub ranged : All Ranged t.adjustments

-- the number of semaphores in a slot
abbrev pub count_at : List Set → ℕ → ℕ
count_at sets slot = (get_or sets slot no_set).count

-- "four free slots with every number 0", and a removed one "to 0 but its generation"
abbrev pub Vacant : Set → Type 0
Vacant k = k.count ≡ 0 → k ≡ free_set k.generation

-- a semaphore that no set has: its value, its last process and every process's adjustment for it are 0
pub record Unused (t : Table) (slot number : ℕ) : Type 0 where
  pub value : get_or t.values (row slot + number) 0 ≡ 0
  pub last : get_or t.lasts (row slot + number) 0 ≡ 0
  pub adjustment : (p : ℕ) → 1 ≤ p → p ≤ processes → get_or t.adjustments (undo_row p slot + number) (pos 0) ≡ pos 0

-- every number at or above a set's count is 0; a free slot's count is 0
abbrev pub Clean : List Set → Table → Type 0
Clean sets t = (slot number : ℕ) → slot < slots → count_at sets slot ≤ number → number < semaphores → Unused t slot number

-- a sleeper's process, slot and array are as the checks of operate left them
pub record Fits (sets : List Set) (s : Sleeper) : Type 0 where
  pub process : 1 ≤ s.process
  pub last : s.process ≤ processes
  pub slot : s.slot < slots
  pub some : 0 < length s.array
  pub whole : length s.array % operation_bytes ≡ 0
  pub short : length s.array ≤ array_bytes
  pub numbers : All (λ (o : Operation). o.number < count_at sets s.slot) (operations_of s.array)

-- of another process
abbrev pub Other : Sleeper → Sleeper → Type 0
Other p q = q.process ≢ p.process

-- "sleeping calls of a process: at most one"
pub data Distinct : List Sleeper → Type 0 where
  alone : Distinct []
  apart : {p : Sleeper} {ps : List Sleeper} → All (Other p) ps → Distinct ps → Distinct (p ∷ ps)

pub record Invariant (s : State) : Type 0 where
  pub sets : length s.sets ≡ slots
  pub counts : All (λ (k : Set). k.count ≤ semaphores) s.sets
  pub vacant : All Vacant s.sets
  pub good : Good s.table
  pub clean : Clean s.sets s.table
  pub fits : All (Fits s.sets) s.queue
  pub distinct : Distinct s.queue
  pub stuck : All (Stuck s) s.queue
  pub time : s.time ≤ time_max
  pub in_time : All (InTime s) s.queue

-- the same inside a waking: of the table, of the queue, and of those who were woken
pub record Calm (sets : List Set) (w : World) : Type 0 where
  pub good : Good w.table
  pub fits : All (Fits sets) w.queue
  pub distinct : Distinct w.queue
  pub room : length w.queue + length w.wakings ≤ processes
