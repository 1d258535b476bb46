-- What the host holds ("What the host holds").
use Rattle.std.specs.Prelude.{ℕ, Option, zero, suc, ◌+◌, ◌*◌, ◌-◌, List, [], get_or, replicate, ℤ, pos, None}
use Rattle.std.proofs.Math.Seq.{paste}
use Rattle.model.specs.declared.Set.{Set}
use Rattle.model.specs.declared.Caller.{Caller}
use Rattle.model.specs.Limits.{slots, semaphores, processes, all_semaphores, all_adjustments}

-- The numbers of every semaphore: its value and its last process, and for each process an undo adjustment.
pub record Table : Type 0 where
  pub values : List ℕ
  pub lasts : List ℕ
  pub adjustments : List ℤ

-- a table with other values, other last processes, or other adjustments: all else stays
abbrev pub with_values : Table → List ℕ → Table
with_values t values = record { values = values; lasts = t.lasts; adjustments = t.adjustments }

abbrev pub with_lasts : Table → List ℕ → Table
with_lasts t lasts = record { values = t.values; lasts = lasts; adjustments = t.adjustments }

abbrev pub with_adjustments : Table → List ℤ → Table
with_adjustments t adjustments = record { values = t.values; lasts = t.lasts; adjustments = adjustments }

-- how long a call may sleep: so many milliseconds, or without end
abbrev pub Wait : Type 0
Wait = Option ℕ

-- A sleeping call: its process, the slot of its set, the bytes of its array as they came, the time that was last told when it went
-- to sleep, and its wait.
pub record Sleeper : Type 0 where
  pub process : ℕ
  pub slot : ℕ
  pub array : List ℕ
  pub start : ℕ
  pub wait : Wait

-- "Give each process a user and a group number": those of all processes, process 1's first.
pub record Callers : Type 0 where
  pub users : List ℕ
  pub groups : List ℕ

-- the two numbers of a process
abbrev pub caller_of : Callers → ℕ → Caller
caller_of c process = record { user = get_or c.users (process - 1) 0; group = get_or c.groups (process - 1) 0 }

-- "Sleepers stand in the order in which they went to sleep": the oldest is the first of the queue. The time is the one last told.
pub record State : Type 0 where
  pub sets : List Set
  pub callers : Callers
  pub table : Table
  pub queue : List Sleeper
  pub time : ℕ

-- where the eight semaphores of a slot begin
abbrev pub row : ℕ → ℕ
row slot = slot * semaphores

-- where the eight adjustments of a process for a slot begin
abbrev pub undo_row : ℕ → ℕ → ℕ
undo_row process slot = (process - 1) * all_semaphores + row slot

-- the adjustments with the eight of a slot at 0, for the processes 1 to n
unfoldable pub clear_rows : ℕ → ℕ → List ℤ → List ℤ
clear_rows zero slot l = l
clear_rows (suc n) slot l = paste (clear_rows n slot l) (undo_row (suc n) slot) (replicate semaphores (pos 0)) semaphores

-- the values, last processes and adjustments of a slot at 0
unfoldable pub cleared : Table → ℕ → Table
cleared t slot =
    record {
      values = paste t.values (row slot) (replicate semaphores 0) semaphores;
      lasts = paste t.lasts (row slot) (replicate semaphores 0) semaphores;
      adjustments = clear_rows processes slot t.adjustments;
    }

-- a free slot of a generation: every other number is 0
abbrev pub free_set : ℕ → Set
free_set generation = record { generation = generation; count = 0; owner = 0; group = 0; mode = 0 }

-- "a fresh host has all 256 adjustments at zero, four free slots with every number 0, and no sleepers"; users and groups are "both 0
-- at the start"; "Time starts at 0."
abbrev pub fresh_table : Table
fresh_table = record { values = replicate all_semaphores 0; lasts = replicate all_semaphores 0; adjustments = replicate all_adjustments (pos 0) }

abbrev pub fresh_callers : Callers
fresh_callers = record { users = replicate processes 0; groups = replicate processes 0 }

abbrev pub fresh_state : State
fresh_state = record { sets = replicate slots (free_set 0); callers = fresh_callers; table = fresh_table; queue = []; time = 0 }

-- what stands past the end of the sets, and of the queue
abbrev pub no_set : Set
no_set = free_set 0

abbrev pub no_sleeper : Sleeper
no_sleeper = record { process = 0; slot = 0; array = []; start = 0; wait = None }
