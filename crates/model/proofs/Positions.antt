-- The operation that judging names: it is the first that does not go through, and the only one of which that is true
-- (specs/Positions.antt).
use Prim.Native.Nat.{ℕ, zero, suc, ◌+◌, ◌/◌, ◌≤◌, ◌<◌}
use native.Mathlib.Nat.{not-suc-le-zero, le_of_suc-le-suc, add-zero}
use native.Mathlib.Omega.{arith}
use mathlib.Core.Path.{◌≡◌, refl, sym, ap, ◌∙◌}
use mathlib.Core.Logic.{◌≢◌}
use mathlib.Core.Bool.{Bool, true, false}
use mathlib.Core.List.{List, [], ◌∷◌}
use lib.Dec.{ltb}
use lib.ListN.{length, take, get_or}
use lib.IntN.{ℤ, pos}
use borrow.Author.Tests.{ltb-true, ltb-false}
use Rattle.model.specs.declared.Operation.{Operation}
use Rattle.model.specs.declared.Outcome.{Outcome}
use Rattle.model.specs.declared.Outcome.TheVariants.{Done, Sleep, Again, Range}
use Rattle.model.specs.declared.Copies.{Copies}
use Rattle.model.specs.declared.Judged.{Judged}
use Rattle.model.specs.declared.Waking.{Waking}
use Rattle.model.specs.declared.Set.{Set}
use Rattle.model.specs.declared.Engine.{Engine}
use Rattle.model.specs.Limits.{operations, operation_bytes}
use Rattle.model.specs.State.{State, Table, Sleeper, no_sleeper, Wait}
use Rattle.model.specs.Operation.{operations_from, operations_of}
use Rattle.model.specs.Judge.{judged, step, go_on, judge_from, judge, code_of, decided_at, decider_of, finishes, Position}
use Rattle.model.specs.Look.{copies_of, look}
use Rattle.model.specs.Waking.{World, Waker, waker, waking, finish}
use Rattle.model.specs.Clock.{at_once}
use Rattle.model.specs.Checks.{slot_of, check_caller, check_create, check_operate, check_query, check_set_value, check_set_all, check_read_all, check_remove, check_process, check_clock}
use Rattle.model.specs.Events.{Event, create, operate, set_value, remove, signal, exit, query, set_all, read_all, clock, act_as, Result, checked, ended_with, would_sleep, operated, call, event, do_create, do_operate, do_set_value, do_remove, do_signal, do_exit, do_query, do_set_all, do_read_all, do_clock, do_act_as}
use Rattle.model.specs.Runs.{All, none, also}
use Rattle.model.specs.Invariant.{Fits}
use Rattle.model.specs.Positions.{Decides, WakingNamed, done, again, range, removed, signalled, expired, CallNamed, Named, WakingOf, Names}
use Rattle.model.proofs.Lists.{all_append}
use Rattle.model.proofs.JudgeLaws.{either}
use Rattle.model.proofs.Rules.{KeptByFinish, tame}
use Rattle.model.proofs.Calm.{treat_from_keeps}
use Rattle.std.specs.Prelude.{Some, None}

-- ---- how far an array goes

-- the operations from the i-th on: so many go through, each beginning of them alone is done, and the next one decides
record Goes (start : Copies) (os : List Operation) (c : Copies) (i : ℕ) : Type 0 where
  through : ℕ
  position : (judge_from start os c i).position ≡ i + through
  most : through ≤ length os
  before : (k : ℕ) → k ≤ through → (judge_from start (take k os) c i).outcome ≡ Done
  decides : (judge_from start (take (suc through) os) c i).outcome ≡ (judge_from start os c i).outcome
  there : (judge_from start os c i).outcome ≢ Done → through < length os

no_operation_lem : (start c : Copies) (i : ℕ) → Goes start [] c i
unfolding judge_from
no_operation_lem start c i =
    record { through = 0; position = sym (add-zero i); most = omega arith; before = none; decides = refl; there = λ n. absurd (n refl) }
  where
    none : (k : ℕ) → k ≤ 0 → (judge_from start (take k []) c i).outcome ≡ Done
    none zero h = refl
    none (suc k) h = absurd (not-suc-le-zero h)

module _ (start : Copies) (o : Operation) (os : List Operation) (c : Copies) (i : ℕ) where
  -- the first of them goes through
  on : (step c o i).outcome ≡ Done → Goes start os (step c o i).copies (i + 1) → Goes start (o ∷ os) c i
  unfolding go_on judge_from
  on e more =
      record {
        through = suc more.through;
        position = rw e (more.position ∙ omega arith);
        most = omega (arith, more.most);
        before = all;
        decides = rw e more.decides;
        there = λ n. omega (arith, more.there (rw e at n));
      }
    where
      all : (k : ℕ) → k ≤ suc more.through → (judge_from start (take k (o ∷ os)) c i).outcome ≡ Done
      all zero h = refl
      all (suc k) h = rw e (more.before k (le_of_suc-le-suc h))

  -- it decides
  here : (x : Outcome) → ((more : Judged) → go_on start i (step c o i).outcome more ≡ judged x i start) → Goes start (o ∷ os) c i
  unfolding go_on judge_from
  here x f =
      record {
        through = 0;
        position = rw f (sym (add-zero i));
        most = omega arith;
        before = none;
        decides = rw (f (judge_from start [] (step c o i).copies (i + 1)), f (judge_from start os (step c o i).copies (i + 1)));
        there = λ n. omega arith;
      }
    where
      none : (k : ℕ) → k ≤ 0 → (judge_from start (take k (o ∷ os)) c i).outcome ≡ Done
      none zero h = refl
      none (suc k) h = absurd (not-suc-le-zero h)

  either_way : Goes start os (step c o i).copies (i + 1) → Goes start (o ∷ os) c i
  unfolding go_on
  either_way more = by (step c o i).outcome refl
    where
      by : (x : Outcome) → (step c o i).outcome ≡ x → Goes start (o ∷ os) c i
      by Done e = on e more
      by Sleep e = here Sleep (λ m. rw e)
      by Again e = here Again (λ m. rw e)
      by Range e = here Range (λ m. rw e)

goes : (start : Copies) (os : List Operation) (c : Copies) (i : ℕ) → Goes start os c i
goes start [] c i = no_operation_lem start c i
goes start (o ∷ os) c i = either_way start o os c i (goes start os (step c o i).copies (i + 1))

-- the position is that of an operation, or their number
pub position_within : (start : Copies) (os : List Operation) → (judge start os).position ≤ length os
position_within start os = let g : Goes start os start 0 = goes start os start 0 in omega (arith, g.position, g.most)

length_operations : (bytes : List ℕ) (at n : ℕ) → length (operations_from bytes at n) ≡ n
unfolding operations_from
length_operations bytes at zero = refl
length_operations bytes at (suc n) = ap suc (length_operations bytes (at + operation_bytes) n)

-- of a call that passed the checks it is small
pub position_small : {sets : List Set} (t : Table) (s : Sleeper) → Fits sets s → (look t s).position ≤ operations
unfolding look
position_small t s f =
    let n : length (operations_of s.array) ≡ length s.array / operation_bytes = length_operations s.array 0 _ in
    omega (arith, position_within (copies_of t s) (operations_of s.array), n, f.short)

-- ---- the operation that is named

-- two positions are there and the same, or one is not
same_at : {i k : ℕ} → Some i ≡ Some k → i ≡ k
same_at e = cc

not_there : {k : ℕ} → None ≡ Some k → ⊥
not_there e = let z : ◌≡◌ {A = ℕ} 0 1 = cc in omega arith

-- judging that names an operation is not done, and it is at the position where judging ended
named_at : (x : Outcome) (n i : ℕ) → decided_at x n ≡ Some i → (x ≢ Done) × (n ≡ i)
unfolding decided_at
named_at Done n i e = absurd (not_there e)
named_at Sleep n i e = (λ (d : Sleep ≡ Done). let z : ◌≡◌ {A = ℕ} 0 1 = cc in omega arith, same_at e)
named_at Again n i e = (λ (d : Again ≡ Done). let z : ◌≡◌ {A = ℕ} 0 1 = cc in omega arith, same_at e)
named_at Range n i e = (λ (d : Range ≡ Done). let z : ◌≡◌ {A = ℕ} 0 1 = cc in omega arith, same_at e)

-- it decides
pub decides : (start : Copies) (os : List Operation) (i : ℕ) → decider_of (judge start os) ≡ Some i → Decides start os i
decides start os i e =
    let g : Goes start os start 0 = goes start os start 0 in
    let n : ((judge start os).outcome ≢ Done) × ((judge start os).position ≡ i) = named_at (judge start os).outcome (judge start os).position i e in
    let t : g.through ≡ i = omega (arith, g.position, n.1) in
    let d : Decides start os g.through = record { there = g.there n.0; before = g.before; decides = g.decides; stops = n.0 } in
    rw t at d

-- an array that is not done names one
names_one : (x : Outcome) (n : ℕ) → x ≢ Done → decided_at x n ≡ Some n
unfolding decided_at
names_one Done n h = absurd (h refl)
names_one Sleep n h = refl
names_one Again n h = refl
names_one Range n h = refl

-- no two positions decide
later : {start : Copies} {os : List Operation} (i j : ℕ) → Decides start os i → Decides start os j → i < j → ⊥
later i j a b h = a.stops (sym a.decides ∙ b.before (suc i) h)

-- the operation that decides is the one that is named
pub decider : (start : Copies) (os : List Operation) (i : ℕ) → Decides start os i → decider_of (judge start os) ≡ Some i
decider start os i d = named ∙ ap Some (same (ltb i k) refl (ltb k i) refl)
  where
    k : ℕ
    k = (judge start os).position

    named : decider_of (judge start os) ≡ Some (judge start os).position
    named = names_one (judge start os).outcome (judge start os).position d.stops

    same : (a : Bool) → ltb i k ≡ a → (b : Bool) → ltb k i ≡ b → k ≡ i
    same true a b h = absurd (later i k d (decides start os k named) (ltb-true i k a))
    same false a true h = absurd (later k i (decides start os k named) d (ltb-true k i h))
    same false a false h = omega (arith, ltb-false i k a, ltb-false k i h)

-- ---- looks and events

-- a look that names an operation, and so the waking that it ends in
pub look_decides : (t : Table) (s : Sleeper) (i : ℕ) → decider_of (look t s) ≡ Some i → Decides (copies_of t s) (operations_of s.array) i
unfolding look
look_decides t s i e = decides (copies_of t s) (operations_of s.array) i e

-- a check names none, and what it lets through may name one
checked_named : (code : ℕ) (s : State) (r : Result) (P : Position → Type 0) → P None → P r.answer.position → P (checked code s r).answer.position
checked_named zero s r P n h = h
checked_named (suc code) s r P n h = n

-- a call that would sleep names the operation that it is handed, whether it may wait or not
would_sleep_named : (s : State) (c : Sleeper) (at : Position) → (would_sleep s c at).answer.position ≡ at
unfolding would_sleep
would_sleep_named s c at = either (λ (r : Result). r.answer.position ≡ at) (at_once c.wait) _ _ refl refl

-- an operate names the operation that decides its call, and the one that decides
operated_named : (wake : Waker) (s : State) (c : Sleeper) (x : Outcome) (copies : Copies) (k : ℕ)
    → (operated wake s c x (decider_of (look s.table c)) copies).answer.position ≡ Some k → Decides (copies_of s.table c) (operations_of c.array) k
unfolding operated
operated_named wake s c Done copies k e = absurd (not_there e)
operated_named wake s c Sleep copies k e = look_decides s.table c k (sym (would_sleep_named s c _) ∙ e)
operated_named wake s c Again copies k e = look_decides s.table c k e
operated_named wake s c Range copies k e = look_decides s.table c k e

operated_decider : (wake : Waker) (s : State) (c : Sleeper) (x : Outcome) (at : Position) (copies : Copies) → x ≢ Done → (operated wake s c x at copies).answer.position ≡ at
unfolding operated
operated_decider wake s c Done at copies n = absurd (n refl)
operated_decider wake s c Sleep at copies n = would_sleep_named s c at
operated_decider wake s c Again at copies n = refl
operated_decider wake s c Range at copies n = refl

module _ (wake : Waker) (s : State) (p : ℕ) (i : ℤ) (wait : Wait) (bytes : List ℕ) where
  abbrev c : Sleeper
  c = call s.time p i wait bytes

  call_decider : check_operate s p i bytes ≡ 0 → (k : ℕ) → Decides (copies_of s.table c) (operations_of bytes) k → (do_operate wake s p i wait bytes).answer.position ≡ Some k
  unfolding do_operate look
  call_decider z k d =
      rw z (operated_decider wake s c (look s.table c).outcome (decider_of (look s.table c)) (look s.table c).copies d.stops
      ∙ decider (copies_of s.table c) (operations_of bytes) k d)

  call_named : CallNamed s p i wait bytes (do_operate wake s p i wait bytes).answer
  unfolding do_operate
  call_named =
      record {
        decides =
            checked_named (check_operate s p i bytes) s _ (λ at. (k : ℕ) → at ≡ Some k → Decides (copies_of s.table c) (operations_of bytes) k)
            (λ k e. absurd (not_there e))
            (operated_named wake s c _ _);
        decider = call_decider;
      }

answer_named : (engine : Engine) (s : State) (e : Event) → Named s e (event (waker engine) s e).answer
unfolding event do_create do_operate do_set_value do_remove do_signal do_exit do_query do_set_all do_read_all do_clock do_act_as
answer_named engine s (create p count mode) = checked_named (check_create s p count mode) s _ (λ at. at ≡ None) refl refl
answer_named engine s (operate p i wait bytes) = call_named (waker engine) s p i wait bytes
answer_named engine s (set_value p i n v) = checked_named (check_set_value s p i n v) s _ (λ at. at ≡ None) refl refl
answer_named engine s (remove p i) = checked_named (check_remove s p i) s _ (λ at. at ≡ None) refl refl
answer_named engine s (signal p) = checked_named (check_process p) s _ (λ at. at ≡ None) refl refl
answer_named engine s (exit p) = checked_named (check_process p) s _ (λ at. at ≡ None) refl refl
answer_named engine s (query p i n) = checked_named (check_query s p i n) s _ (λ at. at ≡ None) refl refl
answer_named engine s (set_all p i bytes) = checked_named (check_set_all s p i bytes) s _ (λ at. at ≡ None) refl refl
answer_named engine s (read_all p i) = checked_named (check_read_all s p i) s _ (λ at. at ≡ None) refl refl
answer_named engine s (clock now) = checked_named (check_clock s now) s _ (λ at. at ≡ None) refl refl
answer_named engine s (act_as p user group) = checked_named (check_caller s p) s _ (λ at. at ≡ None) refl refl

-- ---- wakings

-- an array that is finished by a look names an operation unless it is done
finished_named : (p : ℕ) (x : Outcome) (i : ℕ) → finishes x ≡ true → WakingNamed (waking p (code_of x) (decided_at x i))
unfolding code_of decided_at finishes
finished_named p Done i e = done p
finished_named p Sleep i e = let z : ◌≡◌ {A = ℕ} 0 1 = cc in absurd (omega arith)
finished_named p Again i e = again p i
finished_named p Range i e = range p i

abbrev AllNamed : World → Type 0
AllNamed w = All WakingNamed w.wakings

named_kept : (slot : ℕ) → KeptByFinish slot AllNamed
unfolding finish
named_kept slot w i h lt mi f =
    all_append w.wakings (_ ∷ []) h (also (finished_named (get_or w.queue i no_sleeper).process (look w.table (get_or w.queue i no_sleeper)).outcome _ f) none)

wake_named : (engine : Engine) (slot touched : ℕ) (w : World) (l : ℕ) → AllNamed w → AllNamed (waker engine slot touched w l).world
wake_named engine slot touched w l = (tame engine).keeps slot touched w l AllNamed (named_kept slot)

ended_named : {P : Waking → Type 0} (code : ℤ) (test : Sleeper → Bool) (q : List Sleeper) → ((p : ℕ) → P (waking p code None)) → All P (ended_with code test q)
unfolding ended_with
ended_named code test [] h = none
ended_named {P} code test (s ∷ q) h = either (All P) (test s) _ _ (also (h s.process) (ended_named code test q h)) (ended_named code test q h)

checked_wakings : {P : Waking → Type 0} (code : ℕ) (s : State) (r : Result) → All P r.wakings → All P (checked code s r).wakings
checked_wakings zero s r h = h
checked_wakings (suc code) s r h = none

operated_wakings : (engine : Engine) (s : State) (c : Sleeper) (x : Outcome) (at : Position) (copies : Copies) → All WakingNamed (operated (waker engine) s c x at copies).wakings
unfolding operated would_sleep
operated_wakings engine s c Done at copies = wake_named engine c.slot _ _ 0 none
operated_wakings engine s c Sleep at copies = either (λ (r : Result). All WakingNamed r.wakings) (at_once c.wait) _ _ none none
operated_wakings engine s c Again at copies = none
operated_wakings engine s c Range at copies = none

wakings_named : (engine : Engine) (s : State) (e : Event) → All (WakingOf e) (event (waker engine) s e).wakings
unfolding event do_create do_operate do_set_value do_remove do_signal do_exit do_query do_set_all do_read_all do_clock do_act_as
wakings_named engine s (create p count mode) = checked_wakings (check_create s p count mode) s _ none
wakings_named engine s (operate p i wait bytes) = checked_wakings (check_operate s p i bytes) s _ (operated_wakings engine s (call s.time p i wait bytes) _ _ _)
wakings_named engine s (set_value p i n v) = checked_wakings (check_set_value s p i n v) s _ (wake_named engine (slot_of i) _ _ 0 none)
wakings_named engine s (remove p i) = checked_wakings (check_remove s p i) s _ (ended_named (pos 43) _ s.queue removed)
wakings_named engine s (signal p) = checked_wakings (check_process p) s _ (ended_named (pos 4) _ s.queue signalled)
wakings_named engine s (exit p) = checked_wakings (check_process p) s _ (treat_from_keeps engine s.sets AllNamed named_kept 0 _ _ none)
wakings_named engine s (query p i n) = checked_wakings (check_query s p i n) s _ none
wakings_named engine s (set_all p i bytes) = checked_wakings (check_set_all s p i bytes) s _ (wake_named engine (slot_of i) _ _ 0 none)
wakings_named engine s (read_all p i) = checked_wakings (check_read_all s p i) s _ none
wakings_named engine s (clock now) = checked_wakings (check_clock s now) s _ (ended_named (pos 11) _ _ expired)
wakings_named engine s (act_as p user group) = checked_wakings (check_caller s p) s _ none

-- in any state, in either engine
pub event_names : (engine : Engine) (s : State) (e : Event) → Names s e (event (waker engine) s e)
event_names engine s e = record { answer = answer_named engine s e; wakings = wakings_named engine s e }
