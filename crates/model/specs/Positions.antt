-- What is claimed of the operation that judging names.
use Rattle.std.specs.Prelude.{ℕ, suc, ◌≤◌, ◌<◌, ◌≡◌, ◌≢◌, List, length, take, ℤ, pos, Some, None}
use Rattle.model.specs.declared.Operation.{Operation}
use Rattle.model.specs.declared.Outcome.TheVariants.{Done}
use Rattle.model.specs.declared.Copies.{Copies}
use Rattle.model.specs.declared.Waking.{Waking}
use Rattle.model.specs.State.{State, Wait}
use Rattle.model.specs.Operation.{operations_of}
use Rattle.model.specs.Judge.{judge}
use Rattle.model.specs.Look.{copies_of}
use Rattle.model.specs.Waking.{waking}
use Rattle.model.specs.Checks.{check_operate}
use Rattle.model.specs.Events.{Event, create, operate, set_value, remove, signal, exit, query, set_all, read_all, clock, act_as, Answer, Result, call}
use Rattle.model.specs.Runs.{All}

-- The operation at a position decides how an array is judged: the operations before it, judged alone on the same copies, are done;
-- it is the first that is not, and with it the outcome is that of the whole array.
pub record Decides (start : Copies) (os : List Operation) (i : ℕ) : Type 0 where
  pub there : i < length os
  pub before : (k : ℕ) → k ≤ i → (judge start (take k os)).outcome ≡ Done
  pub decides : (judge start (take (suc i) os)).outcome ≡ (judge start os).outcome
  pub stops : (judge start os).outcome ≢ Done

-- "each waking with 11 or 34" names an operation; one with 0, 43 or 4 names none
pub data WakingNamed : Waking → Type 0 where
  done : (p : ℕ) → WakingNamed (waking p (pos 0) None)
  again : (p k : ℕ) → WakingNamed (waking p (pos 11) (Some k))
  range : (p k : ℕ) → WakingNamed (waking p (pos 34) (Some k))
  removed : (p : ℕ) → WakingNamed (waking p (pos 43) None)
  signalled : (p : ℕ) → WakingNamed (waking p (pos 4) None)

-- "an 11 by expiry" names none
pub data Expired : Waking → Type 0 where
  expired : (p : ℕ) → Expired (waking p (pos 11) None)

-- The operation that an operate's answer names decides its call, on the state as it stood; and the one that decides is named, once
-- the checks let the call through.
pub record CallNamed (s : State) (p : ℕ) (i : ℤ) (wait : Wait) (bytes : List ℕ) (a : Answer) : Type 0 where
  pub decides : (k : ℕ) → a.position ≡ Some k → Decides (copies_of s.table (call s.time p i wait bytes)) (operations_of bytes) k
  pub decider : check_operate s p i bytes ≡ 0 → (k : ℕ) → Decides (copies_of s.table (call s.time p i wait bytes)) (operations_of bytes) k → a.position ≡ Some k

-- No other event's answer names one.
abbrev pub Named : State → Event → Answer → Type 0
Named s (create p count mode) a = a.position ≡ None
Named s (operate p i wait bytes) a = CallNamed s p i wait bytes a
Named s (set_value p i n v) a = a.position ≡ None
Named s (remove p i) a = a.position ≡ None
Named s (signal p) a = a.position ≡ None
Named s (exit p) a = a.position ≡ None
Named s (query p i n) a = a.position ≡ None
Named s (set_all p i bytes) a = a.position ≡ None
Named s (read_all p i) a = a.position ≡ None
Named s (clock now) a = a.position ≡ None
Named s (act_as p user group) a = a.position ≡ None

-- The clock alone ends sleepers by expiry, and in no other way.
abbrev pub WakingOf : Event → Waking → Type 0
WakingOf (create p count mode) w = WakingNamed w
WakingOf (operate p i wait bytes) w = WakingNamed w
WakingOf (set_value p i n v) w = WakingNamed w
WakingOf (remove p i) w = WakingNamed w
WakingOf (signal p) w = WakingNamed w
WakingOf (exit p) w = WakingNamed w
WakingOf (query p i n) w = WakingNamed w
WakingOf (set_all p i bytes) w = WakingNamed w
WakingOf (read_all p i) w = WakingNamed w
WakingOf (clock now) w = Expired w
WakingOf (act_as p user group) w = WakingNamed w

-- what is claimed of one event
pub record Names (s : State) (e : Event) (r : Result) : Type 0 where
  pub answer : Named s e r.answer
  pub wakings : All (WakingOf e) r.wakings
