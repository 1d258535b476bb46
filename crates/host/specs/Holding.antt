-- How the row and the adjustments hold a state.
use Rattle.std.specs.Prelude.{◌≡◌, ℕ, zero, suc, ◌+◌, ◌-◌, ◌*◌, cond, List, [], ◌∷◌, ◌++◌, map, length, take, drop, replicate, ℤ, ◌==◌, slice_index}
use Rattle.model.specs.declared.Set.{Set}
use Rattle.model.specs.declared.Caller.{Caller}
use Rattle.model.specs.Limits.{slots, processes, array_bytes}
use Rattle.model.specs.State.{Table, Sleeper, Callers, State}
use Rattle.model.specs.Marks.{named}
use Rattle.model.specs.Runs.{Reached}
use Rattle.host.specs.Parts.{Part, generations, counts, owners, owning_groups, modes, users, groups, values, lasts, clock, asleep, order, sleeps_at, sizes, names, starts, waits, arrays, Row, row_in, with, put}
use Rattle.host.specs.Waits.{wait_number, wait_of}

-- ---- from a state to a row

-- what the sleeper of a process has; the default if the process is awake
unfoldable pub of_process : {A : Type 0} → A → (Sleeper → A) → ℕ → List Sleeper → A
of_process d f p [] = d
of_process d f p (s ∷ q) = cond (s.process == p) (f s) (of_process d f p q)

-- .. of the n processes from p on
unfoldable pub by_process : (Sleeper → ℕ) → ℕ → ℕ → List Sleeper → List ℕ
by_process f zero p q = []
by_process f (suc n) p q = of_process 0 f p q ∷ by_process f n (p + 1) q

-- the array of a process in its bytes, zeros behind it
abbrev pub block_of : ℕ → List Sleeper → List ℕ
block_of p q = take array_bytes (of_process [] (λ (s : Sleeper). s.array) p q ++ replicate array_bytes 0)

unfoldable pub blocks_from : ℕ → ℕ → List Sleeper → List ℕ
blocks_from zero p q = []
blocks_from (suc n) p q = block_of p q ++ blocks_from n (p + 1) q

-- the processes that sleep, oldest first, and zeros behind them
unfoldable pub order_of : List Sleeper → List ℕ
order_of q = map (λ (s : Sleeper). s.process) q ++ replicate (processes - length q) 0

abbrev pub the_slot : Sleeper → ℕ
the_slot s = s.slot

abbrev pub the_size : Sleeper → ℕ
the_size s = length s.array

abbrev pub the_start : Sleeper → ℕ
the_start s = s.start

abbrev pub the_wait : Sleeper → ℕ
the_wait s = wait_number s.wait

-- a part by process, and the number of a sleeper that stands there
pub record Kept : Type 0 where
  pub part : Part
  pub of : Sleeper → ℕ

-- the slot, the bytes of the array, the mask of the semaphores that the array names, the start and the wait
abbrev pub kept : List Kept
kept =
    record { part = sleeps_at; of = the_slot }
    ∷ record { part = sizes; of = the_size }
    ∷ record { part = names; of = named }
    ∷ record { part = starts; of = the_start }
    ∷ record { part = waits; of = the_wait }
    ∷ []

-- a row with these numbers of a queue's sleepers
abbrev pub with_kept : List Kept → Row → List Sleeper → Row
with_kept [] r q = r
with_kept (k ∷ ks) r q = with (with_kept ks r q) k.part (by_process k.of processes 1 q)

-- .. with another queue
abbrev pub with_queue : Row → List Sleeper → Row
with_queue r q = with (with (with (with_kept kept r q) asleep (length q ∷ [])) order (order_of q)) arrays (blocks_from processes 1 q)

-- .. with another time
abbrev pub with_time : Row → ℕ → Row
with_time r time = with r clock (time ∷ [])

-- .. with other sets, with other callers, and with other values and last processes
abbrev pub with_sets : Row → List Set → Row
with_sets r l =
    let counted = with (with r generations (map (λ (s : Set). s.generation) l)) counts (map (λ (s : Set). s.count) l) in
    with (with (with counted owners (map (λ (s : Set). s.owner) l)) owning_groups (map (λ (s : Set). s.group) l)) modes (map (λ (s : Set). s.mode) l)

abbrev pub with_callers : Row → Callers → Row
with_callers r c = with (with r users c.users) groups c.groups

abbrev pub with_table : Row → Table → Row
with_table r t = with (with r values t.values) lasts t.lasts

-- all that the host holds: what its row says, and the adjustments
pub record Host : Type 0 where
  pub row : Row
  pub adjustments : List ℤ

-- how it holds a state
abbrev pub host_of : State → Host
host_of s =
    let owned = with_callers (with_sets (λ (p : Part). []) s.sets) s.callers in
    record { row = with_queue (with_table (with_time owned s.time) s.table) s.queue; adjustments = s.table.adjustments }

-- a host with another table and queue: its sets, its callers and its time stay
abbrev pub host_with : Host → Table → List Sleeper → Host
host_with x t q = record { row = with_queue (with_table x.row t) q; adjustments = t.adjustments }

-- ---- from a host to its state

-- the set in a slot
abbrev pub set_at : Row → ℕ → Set
set_at r slot =
    record {
      generation = slice_index (r generations) slot;
      count = slice_index (r counts) slot;
      owner = slice_index (r owners) slot;
      group = slice_index (r owning_groups) slot;
      mode = slice_index (r modes) slot;
    }

-- .. replaced
abbrev pub with_set : Row → ℕ → Set → Row
with_set r slot s =
    let counted = put (put r generations slot s.generation) counts slot s.count in
    put (put (put counted owners slot s.owner) owning_groups slot s.group) modes slot s.mode

unfoldable pub sets_from : Row → ℕ → ℕ → List Set
sets_from r slot zero = []
sets_from r slot (suc n) = set_at r slot ∷ sets_from r (slot + 1) n

abbrev pub sets_in : Row → List Set
sets_in r = sets_from r 0 slots

-- where a process stands in a part by process; beyond it for no process
abbrev pub entry : ℕ → ℕ
entry zero = 255
entry (suc p) = p

-- the user and the group of a process, both 0 of no process
abbrev pub caller_in : Row → ℕ → Caller
caller_in r p = record { user = slice_index (r users) (entry p); group = slice_index (r groups) (entry p) }

-- .. replaced
abbrev pub with_caller_at : Row → ℕ → Caller → Row
with_caller_at r p c = put (put r users (entry p) c.user) groups (entry p) c.group

-- those of all processes
abbrev pub callers_in : Row → Callers
callers_in r = record { users = r users; groups = r groups }

-- what a process sleeps with, replaced but for the array: its call, and since when and how long it waits
abbrev pub with_call : Row → ℕ → ℕ → ℕ → ℕ → Row
with_call r p slot size mask = put (put (put r sleeps_at (entry p) slot) sizes (entry p) size) names (entry p) mask

abbrev pub with_wait : Row → ℕ → ℕ → ℕ → Row
with_wait r p start wait = put (put r starts (entry p) start) waits (entry p) wait

-- the room for the array that a process sleeps on, and that array: as many of its bytes as it has
abbrev pub room_in : Row → ℕ → List ℕ
room_in r p = take array_bytes (drop (array_bytes * entry p) (r arrays))

unfoldable pub array_in : Row → ℕ → List ℕ
array_in r p = take (slice_index (r sizes) (entry p)) (room_in r p)

-- since when it sleeps, and its wait as a number
abbrev pub start_in : Row → ℕ → ℕ
start_in r p = slice_index (r starts) (entry p)

abbrev pub wait_in : Row → ℕ → ℕ
wait_in r p = slice_index (r waits) (entry p)

abbrev pub sleeper_in : Row → ℕ → Sleeper
sleeper_in r p =
    record {
      process = p;
      slot = slice_index (r sleeps_at) (entry p);
      array = array_in r p;
      start = start_in r p;
      wait = wait_of (wait_in r p);
    }

-- how many sleep
abbrev pub asleep_in : Row → ℕ
asleep_in r = slice_index (r asleep) 0

unfoldable pub queue_in : Row → List Sleeper
queue_in r = map (sleeper_in r) (take (asleep_in r) (r order))

abbrev pub table_in : Host → Table
table_in x = record { values = x.row values; lasts = x.row lasts; adjustments = x.adjustments }

-- the time last told
abbrev pub time_in : Row → ℕ
time_in r = slice_index (r clock) 0

abbrev pub state_in : Host → State
state_in x =
    record { sets = sets_in x.row; callers = callers_in x.row; table = table_in x; queue = queue_in x.row; time = time_in x.row }

-- the host that is lent: its bytes, and its adjustments
abbrev pub host_in : List ℕ → List ℤ → Host
host_in h adjustments = record { row = row_in h; adjustments = adjustments }

-- The one premise of a promise: the host holds a state that is fresh or came back from an event.
pub record Held (x : Host) : Type 0 where
  pub holds : x ≡ host_of (state_in x)
  pub reached : Reached (state_in x)
