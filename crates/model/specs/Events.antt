-- The eleven events. The engines differ in the waker only.
use Rattle.std.specs.Prelude.{ℕ, zero, suc, ◌+◌, ◌-◌, ◌%◌, ◌^◌, Bool, cond, not, List, [], ◌∷◌, ◌++◌, eqb, get_or, set, replicate, ℤ, pos, nat_abs, ◌+ℤ◌, None}
use Rattle.std.proofs.Math.Seq.{slice, paste}
use Rattle.std.proofs.lemmas.List.Edits.{sets}
use Rattle.std.specs.Int.Signed.{lt_z}
use Rattle.model.specs.declared.Set.{Set}
use Rattle.model.specs.declared.Caller.{Caller}
use Rattle.model.specs.declared.Outcome.{Outcome}
use Rattle.model.specs.declared.Outcome.TheVariants.{Done, Sleep, Again, Range}
use Rattle.model.specs.declared.Copies.{Copies}
use Rattle.model.specs.declared.Waking.{Waking}
use Rattle.model.specs.declared.Event as declared
use Rattle.model.specs.declared.Event.TheVariants.{Create, Operate, SetValue, Remove, Signal, Exit, Query, SetAll, ReadAll, Clock, ActAs}
use Rattle.model.specs.Limits.{slots, processes, value_max, all_semaphores}
use Rattle.model.specs.State.{Table, with_values, with_adjustments, Sleeper, Callers, caller_of, State, row, undo_row, clear_rows, cleared, free_set, no_set, Wait}
use Rattle.model.specs.Judge.{code_of, decider_of, Position}
use Rattle.model.specs.Look.{look, applied, values_of}
use Rattle.model.specs.Marks.{mine, differing, every_number, mask_of}
use Rattle.model.specs.Waking.{World, Ended, Waker, waking}
use Rattle.model.specs.Clock.{due, not_due, at_once}
use Rattle.model.specs.Values.{values_in, held}
use Rattle.model.specs.Checks.{live, identifier_of, slot_of, free_slot, check_caller, check_create, check_operate, check_query, check_set_value, check_set_all, check_read_all, check_remove, check_process, check_clock}
use Rattle.model.specs.Counts.{for_increase, for_zero, count_of}

pub data Event : Type 0 where
  -- process, count, the nine permission bits
  create : ℕ → ℕ → ℕ → Event
  -- process, identifier, "a wait in milliseconds or none", the bytes of the operations
  operate : ℕ → ℤ → Wait → List ℕ → Event
  -- process, identifier, number, value
  set_value : ℕ → ℤ → ℕ → ℤ → Event
  -- process, identifier
  remove : ℕ → ℤ → Event
  -- process
  signal : ℕ → Event
  -- process
  exit : ℕ → Event
  -- process, identifier, number
  query : ℕ → ℤ → ℕ → Event
  -- process, identifier, the bytes of the values
  set_all : ℕ → ℤ → List ℕ → Event
  -- process, identifier
  read_all : ℕ → ℤ → Event
  -- "the present time"
  clock : ℕ → Event
  -- process, user, group
  act_as : ℕ → ℕ → ℕ → Event

-- the event that is meant by one that is handed in, with the bytes beside it: an operate's operations, or a setting's values
abbrev pub event_of : declared.Event → List ℕ → Event
event_of (Create process count mode) bytes = create process count mode
event_of (Operate process identifier wait) bytes = operate process identifier wait bytes
event_of (SetValue process identifier number value) bytes = set_value process identifier number value
event_of (Remove process identifier) bytes = remove process identifier
event_of (Signal process) bytes = signal process
event_of (Exit process) bytes = exit process
event_of (Query process identifier number) bytes = query process identifier number
event_of (SetAll process identifier) bytes = set_all process identifier bytes
event_of (ReadAll process identifier) bytes = read_all process identifier
event_of (Clock time) bytes = clock time
event_of (ActAs process user group) bytes = act_as process user group

-- how an event is answered: a query with what it saw, a reading with what it read, any other with what it tells
pub data Form : Type 0 where
  as_told : Form
  as_seen : Form
  as_read : Form

abbrev pub form_of : Event → Form
form_of (create process count mode) = as_told
form_of (operate process identifier wait operations) = as_told
form_of (set_value process identifier number value) = as_told
form_of (remove process identifier) = as_told
form_of (signal process) = as_told
form_of (exit process) = as_told
form_of (query process identifier number) = as_seen
form_of (set_all process identifier values) = as_told
form_of (read_all process identifier) = as_read
form_of (clock time) = as_told
form_of (act_as process user group) = as_told

-- what a query shows beside the value; zeros in every other answer
pub record Seen : Type 0 where
  pub last : ℕ
  pub increase : ℕ
  pub zero : ℕ
  pub increase_mask : ℕ
  pub zero_mask : ℕ

-- what a reading shows of a semaphore: its value, "and with them both wait counts"
pub record Read : Type 0 where
  pub value : ℕ
  pub increase : ℕ
  pub zero : ℕ

-- "an answer is all that an event returns beside state, looks and wakings"; the position is that of the operation that decided.
-- A reading alone shows all semaphores of a set, in order.
pub record Answer : Type 0 where
  pub code : ℤ
  pub position : Position
  pub value : ℕ
  pub seen : Seen
  pub all : List Read

pub record Result : Type 0 where
  pub answer : Answer
  pub state : State
  pub looks : ℕ
  pub wakings : List Waking

abbrev pub nothing_seen : Seen
nothing_seen = record { last = 0; increase = 0; zero = 0; increase_mask = 0; zero_mask = 0 }

-- "Every other event has value 0."
abbrev pub answer_at : ℤ → Position → Answer
answer_at code position = record { code = code; position = position; value = 0; seen = nothing_seen; all = [] }

-- "A completed array, .. and the checks before judging have no position"
abbrev pub answer : ℤ → Answer
answer code = answer_at code None

-- "A refused event returns its code, value 0, no looks and no wakings; the state is unchanged": one that is refused by judging
-- names the operation that decided
abbrev pub refused_at : State → ℕ → Position → Result
refused_at s code position = record { answer = answer_at (pos code) position; state = s; looks = 0; wakings = [] }

abbrev pub refused : State → ℕ → Result
refused s code = refused_at s code None

-- done, with a new state, no looks, and these wakings
abbrev pub done_with : State → List Waking → Result
done_with s wakings = record { answer = answer (pos 0); state = s; looks = 0; wakings = wakings }

-- refused with the code of the first check that applies, else what the event does
abbrev pub checked : ℕ → State → Result → Result
checked zero s does = does
checked (suc code) s does = refused s (suc code)

-- ---- what events do to the table and to the queue

-- the adjustments with those of one semaphore at 0, for the processes 1 to n
unfoldable pub clear_number : ℕ → ℕ → ℕ → List ℤ → List ℤ
clear_number zero slot number l = l
clear_number (suc n) slot number l = set (clear_number n slot number l) (undo_row (suc n) slot + number) (pos 0)

-- "Set value also clears that semaphore's adjustments for all processes; last process stays."
unfoldable pub assigned : Table → ℕ → ℕ → ℕ → Table
assigned t slot number value =
    with_adjustments (with_values t (set t.values (row slot + number) value)) (clear_number processes slot number t.adjustments)

-- "all values are set, the set's adjustments cleared, last processes kept"
unfoldable pub assigned_all : Table → ℕ → List ℕ → Table
assigned_all t slot values =
    with_adjustments (with_values t (sets t.values (row slot) values)) (clear_rows processes slot t.adjustments)

-- "cut to 0 to 32,767"
unfoldable pub cut : ℕ → ℤ → ℕ
cut v a = cond (lt_z (pos v +ℤ a) (pos 0)) 0 (cond (lt_z (pos value_max) (pos v +ℤ a)) value_max (nat_abs (pos v +ℤ a)))

-- "adds each adjustment of that process to its semaphore"
unfoldable pub undo_all : List ℕ → List ℤ → List ℕ
undo_all [] js = []
undo_all (v ∷ vs) [] = v ∷ vs
undo_all (v ∷ vs) (a ∷ js) = cut v a ∷ undo_all vs js

-- "Exit adds each adjustment of that process to its semaphore, cut to 0 to 32,767, sets it to zero. Last process stays."
unfoldable pub exited : Table → ℕ → Table
exited t p =
    let values = undo_all t.values (slice (undo_row p 0) (undo_row p 0 + all_semaphores) t.adjustments) in
    let adjustments = paste t.adjustments (undo_row p 0) (replicate all_semaphores (pos 0)) all_semaphores in
    with_adjustments (with_values t values) adjustments

-- the sleepers that pass the test, in order
unfoldable pub keep : (Sleeper → Bool) → List Sleeper → List Sleeper
keep test [] = []
keep test (s ∷ q) = cond (test s) (s ∷ keep test q) (keep test q)

-- the sleepers that pass the test, ended with a code, oldest first
unfoldable pub ended_with : ℤ → (Sleeper → Bool) → List Sleeper → List Waking
ended_with code test [] = []
ended_with code test (s ∷ q) = cond (test s) (waking s.process code None ∷ ended_with code test q) (ended_with code test q)

-- is it a call of this process?
abbrev pub is_of : ℕ → Sleeper → Bool
is_of p s = eqb s.process p

-- those of other processes, and those that sleep at other sets
abbrev pub not_of : ℕ → Sleeper → Bool
not_of p s = not (is_of p s)

abbrev pub not_mine : ℕ → Sleeper → Bool
not_mine slot s = not (mine slot s)

-- ---- waking

-- what the host is after a waking, and what the event returns
abbrev pub woken_as : State → Ended → Result
woken_as s e =
    record {
      answer = answer (pos 0);
      state = record { sets = s.sets; callers = s.callers; table = e.world.table; queue = e.world.queue; time = s.time };
      looks = e.looks;
      wakings = e.world.wakings;
    }

abbrev pub world : Table → List Sleeper → World
world t q = record { table = t; queue = q; wakings = [] }

-- ---- the events

-- a set that a caller makes in a slot of a generation: "the owner is the caller's user and the owning group its group"
abbrev pub made_by : Caller → ℕ → ℕ → ℕ → Set
made_by c generation count mode = record { generation = generation; count = count; owner = c.user; group = c.group; mode = mode }

-- "Create takes the lowest free slot, with values, adjustments and last processes at 0; its value is the identifier."
unfoldable pub do_create : State → ℕ → ℕ → ℕ → Result
do_create s p count mode =
    let slot = free_slot s.sets in
    checked (check_create s p count mode) s
    (record {
      answer = record { code = pos 0; position = None; value = identifier_of s.sets slot; seen = nothing_seen; all = [] };
      state = record {
        sets = set s.sets slot (made_by (caller_of s.callers p) (get_or s.sets slot no_set).generation count mode);
        callers = s.callers;
        table = cleared s.table slot;
        queue = s.queue;
        time = s.time;
      };
      looks = 0;
      wakings = [];
    })

-- a call that would sleep: "a wait of 0 that would sleep is 11 at once"; else "Sleeping changes nothing but the queue"
unfoldable pub would_sleep : State → Sleeper → Position → Result
would_sleep s c position =
    cond (at_once c.wait) (refused_at s 11 position)
    (record { answer = answer_at (code_of Sleep) position; state = record { sets = s.sets; callers = s.callers; table = s.table; queue = s.queue ++ c ∷ []; time = s.time }; looks = 0; wakings = [] })

-- an array that passed the checks, as it was judged: the copy becomes the state and the set is treated; or it would sleep; or it is
-- refused
unfoldable pub operated : Waker → State → Sleeper → Outcome → Position → Copies → Result
operated wake s c Done position copies =
    let t = applied s.table c copies in
    woken_as s (wake c.slot (differing 0 0 (values_of s.table c.slot) (values_of t c.slot)) (world t s.queue) 0)
operated wake s c Sleep position copies = would_sleep s c position
operated wake s c Again position copies = refused_at s 11 position
operated wake s c Range position copies = refused_at s 34 position

-- the call of a process: an array at the set that an identifier names, begun at a time, with its wait
abbrev pub call : ℕ → ℕ → ℤ → Wait → List ℕ → Sleeper
call time p i wait bytes = record { process = p; slot = slot_of i; array = bytes; start = time; wait = wait }

unfoldable pub do_operate : Waker → State → ℕ → ℤ → Wait → List ℕ → Result
do_operate wake s p i wait bytes =
    let c = call s.time p i wait bytes in
    let j = look s.table c in
    checked (check_operate s p i bytes) s (operated wake s c j.outcome (decider_of j) j.copies)

-- touched is "in set value always the named one"; no other value differs
unfoldable pub do_set_value : Waker → State → ℕ → ℤ → ℕ → ℤ → Result
do_set_value wake s p i n v =
    checked (check_set_value s p i n v) s
    (woken_as s (wake (slot_of i) (2 ^ n) (world (assigned s.table (slot_of i) n (nat_abs v)) s.queue) 0))

-- "Remove ends the set's sleepers with 43, oldest first, frees the slot, and puts all of it, adjustments too, to 0 but its
-- generation", which "goes up by one at each removal and goes from 65,535 round to 0"
unfoldable pub do_remove : State → ℕ → ℤ → Result
do_remove s p i =
    let slot = slot_of i in
    checked (check_remove s p i) s
    (done_with
    (record {
      sets = set s.sets slot (free_set (((get_or s.sets slot no_set).generation + 1) % 65536));
      callers = s.callers;
      table = cleared s.table slot;
      queue = keep (not_mine slot) s.queue;
      time = s.time;
    })
    (ended_with (pos 43) (mine slot) s.queue))

-- "Signal takes a sleeper out and ends it with 4. On a process awake it answers 0 and changes nothing."
unfoldable pub do_signal : State → ℕ → Result
do_signal s p =
    checked (check_process p) s
    (done_with
    (record { sets = s.sets; callers = s.callers; table = s.table; queue = keep (not_of p) s.queue; time = s.time })
    (ended_with (pos 4) (is_of p) s.queue))

-- the state at a new time: nobody who is due sleeps on
abbrev pub at_time : State → ℕ → State
at_time s now = record { sets = s.sets; callers = s.callers; table = s.table; queue = keep (not_due now) s.queue; time = now }

-- "A sleeper whose start plus wait is at or below the new time ends with 11, oldest first, as a listed waking"; "Expiry has no looks."
unfoldable pub do_clock : State → ℕ → Result
do_clock s now = checked (check_clock s now) s (done_with (at_time s now) (ended_with (pos 11) (due now) s.queue))

-- a set is treated if it is live
unfoldable pub treat : Waker → List Set → ℕ → ℕ → Ended → Ended
treat wake sets slot touched e = cond (live sets slot) (wake slot touched e.world e.looks) e

-- "exit every live set from slot 0 up", each with its touched semaphores
unfoldable pub treat_from : Waker → List Set → ℕ → List ℕ → Ended → Ended
treat_from wake sets slot [] e = e
treat_from wake sets slot (touched ∷ more) e = treat_from wake sets (slot + 1) more (treat wake sets slot touched e)

-- the touched semaphores of n slots from one on
unfoldable pub touched_from : ℕ → ℕ → Table → Table → List ℕ
touched_from zero slot t t' = []
touched_from (suc n) slot t t' = differing 0 0 (values_of t slot) (values_of t' slot) ∷ touched_from n (slot + 1) t t'

-- "Exit takes a sleeper out without a waking, then adds each adjustment .., and treats the sets."
unfoldable pub do_exit : Waker → State → ℕ → Result
do_exit wake s p =
    let t = exited s.table p in
    checked (check_process p) s
    (woken_as s (treat_from wake s.sets 0 (touched_from slots 0 s.table t) (record { world = world t (keep (not_of p) s.queue); looks = 0 })))

-- "Query's answer is value, last process, and the two wait counts with their masks."
unfoldable pub seen_at : State → ℕ → ℕ → Seen
seen_at s slot n =
    record {
      last = get_or s.table.lasts (row slot + n) 0;
      increase = count_of (for_increase s.table slot n) s.queue;
      zero = count_of (for_zero s.table slot n) s.queue;
      increase_mask = mask_of (for_increase s.table slot n) 0 s.queue;
      zero_mask = mask_of (for_zero s.table slot n) 0 s.queue;
    }

unfoldable pub do_query : State → ℕ → ℤ → ℕ → Result
do_query s p i n =
    checked (check_query s p i n) s
    (record {
      answer = record { code = pos 0; position = None; value = get_or s.table.values (row (slot_of i) + n) 0; seen = seen_at s (slot_of i) n; all = [] };
      state = s;
      looks = 0;
      wakings = [];
    })

-- "all values are set, .., and its sleepers treated, every semaphore touched"
unfoldable pub do_set_all : Waker → State → ℕ → ℤ → List ℕ → Result
do_set_all wake s p i bytes =
    let slot = slot_of i in
    let t = assigned_all s.table slot (held (values_in bytes)) in
    checked (check_set_all s p i bytes) s
    (woken_as s (wake slot (every_number (get_or s.sets slot no_set).count) (world t s.queue) 0))

-- what is read of a semaphore, and of n semaphores from the k-th on
unfoldable pub read_at : State → ℕ → ℕ → Read
read_at s slot k =
    record { value = get_or s.table.values (row slot + k) 0; increase = (seen_at s slot k).increase; zero = (seen_at s slot k).zero }

unfoldable pub read_from : State → ℕ → ℕ → ℕ → List Read
read_from s slot k zero = []
read_from s slot k (suc n) = read_at s slot k ∷ read_from s slot (k + 1) n

-- "Reading gives values in order, and with them both wait counts": of each semaphore below the count
unfoldable pub do_read_all : State → ℕ → ℤ → Result
do_read_all s p i =
    checked (check_read_all s p i) s
    (record {
      answer = record { code = pos 0; position = None; value = 0; seen = nothing_seen; all = read_from s (slot_of i) 0 (get_or s.sets (slot_of i) no_set).count };
      state = s;
      looks = 0;
      wakings = [];
    })

-- the callers with other numbers of a process
abbrev pub with_caller : Callers → ℕ → Caller → Callers
with_caller cs p c = record { users = set cs.users (p - 1) c.user; groups = set cs.groups (p - 1) c.group }

-- "Give each process a user and a group number (set by an event ..)": it asks no permission
unfoldable pub do_act_as : State → ℕ → ℕ → ℕ → Result
do_act_as s p user group =
    checked (check_caller s p) s
    (done_with
    (record { sets = s.sets; callers = with_caller s.callers p (record { user = user; group = group }); table = s.table; queue = s.queue; time = s.time })
    [])

-- "value, for increase, for zero of each semaphore"
unfoldable pub numbers_of : List Read → List ℕ
numbers_of [] = []
numbers_of (r ∷ rs) = r.value ∷ r.increase ∷ r.zero ∷ numbers_of rs

unfoldable pub event : Waker → State → Event → Result
event wake s (create p count mode) = do_create s p count mode
event wake s (operate p i wait bytes) = do_operate wake s p i wait bytes
event wake s (set_value p i n v) = do_set_value wake s p i n v
event wake s (remove p i) = do_remove s p i
event wake s (signal p) = do_signal s p
event wake s (exit p) = do_exit wake s p
event wake s (query p i n) = do_query s p i n
event wake s (set_all p i bytes) = do_set_all wake s p i bytes
event wake s (read_all p i) = do_read_all s p i
event wake s (clock now) = do_clock s now
event wake s (act_as p user group) = do_act_as s p user group
