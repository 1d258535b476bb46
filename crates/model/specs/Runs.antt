-- Lists of events, and what is claimed of the two engines ("What each promise says").
use Rattle.std.specs.Prelude.{ℕ, suc, ◌≤◌, ◌≡◌, false, List, [], ◌∷◌, pos}
use Rattle.model.specs.declared.Engine.{Engine}
use Rattle.model.specs.declared.Engine.TheVariants.{Plain, Quick}
use Rattle.model.specs.State.{State, Sleeper, fresh_state}
use Rattle.model.specs.Waking.{waker, could_finish}
use Rattle.model.specs.Clock.{due}
use Rattle.model.specs.Events.{Event, Result, refused_at, event}

-- the results of a list of events, in order, and the state after it
pub record Run : Type 0 where
  pub results : List Result
  pub last : State

-- "each event handed the state its engine's last one returned"
unfoldable pub run : Engine → State → List Event → Run
run engine s [] = record { results = []; last = s }
run engine s (e ∷ es) =
    let r = event (waker engine) s e in
    let more = run engine r.state es in
    record { results = r ∷ more.results; last = more.last }

-- "the state handed in is fresh or came back from an event", of either engine
pub data Reached : State → Type 0 where
  start : Reached fresh_state
  came : {s : State} → Reached s → (engine : Engine) (e : Event) → Reached (event (waker engine) s e).state

-- a property of every element of a list
pub data All {A : Type 0} (P : A → Type 0) : List A → Type 0 where
  none : All P []
  also : {x : A} {xs : List A} → P x → All P xs → All P (x ∷ xs)

-- two lists of one length whose elements are related, each to its own
pub data Pairwise {A : Type 0} (P : A → A → Type 0) : List A → List A → Type 0 where
  end : Pairwise P [] []
  next : {x y : A} {xs ys : List A} → P x y → Pairwise P xs ys → Pairwise P (x ∷ xs) (y ∷ ys)

-- one event in the quick and in the plain engine: "apart from looks both engines give the same answers and the same wakings in
-- the same order"; "at each event quick ≤ plain ≤ 28"
pub record Alike (quick plain : Result) : Type 0 where
  pub answer : quick.answer ≡ plain.answer
  pub wakings : quick.wakings ≡ plain.wakings
  pub fewer : quick.looks ≤ plain.looks
  pub bounded : plain.looks ≤ 28

-- "A sleeper could finish if its array, judged on the state as it stands, gives anything but sleep."
abbrev pub Stuck : State → Sleeper → Type 0
Stuck s q = could_finish s.table q ≡ false

-- nobody asleep is overdue: the sleeper's wait is not over at the time last told
abbrev pub InTime : State → Sleeper → Type 0
InTime s q = due s.time q ≡ false

-- "A refused event (one that is 11 or 34 by judging too) returns its code, value 0 (in a query every other number 0 too), no
-- looks and no wakings; the state is unchanged": a result whose code is above 0 is that refusal, with the operation that it names
abbrev pub Refuses : State → Result → Type 0
Refuses s r = (code : ℕ) → r.answer.code ≡ pos (suc code) → r ≡ refused_at s (suc code) r.answer.position

-- Demand 1, for one event of an engine in any state.
abbrev pub RefusedWhole : Engine → State → Event → Type 0
RefusedWhole engine s e = Refuses s (event (waker engine) s e)

-- Demand 3, for one list of events from a fresh host.
pub record EnginesAgree (events : List Event) : Type 0 where
  pub alike : Pairwise Alike (run Quick fresh_state events).results (run Plain fresh_state events).results
  pub last : (run Quick fresh_state events).last ≡ (run Plain fresh_state events).last
  pub stuck : All (Stuck (run Quick fresh_state events).last) (run Quick fresh_state events).last.queue
  pub in_time : All (InTime (run Quick fresh_state events).last) (run Quick fresh_state events).last.queue
