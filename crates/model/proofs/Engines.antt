-- The claim about the two engines (specs/Runs.antt), and what holds of every state that is fresh or came back from an event.
use Prim.Native.Nat.{ℕ, ◌≤◌, ◌<◌}
use native.Mathlib.Omega.{arith}
use mathlib.Core.Path.{◌≡◌, refl, subst}
use mathlib.Core.Logic.{◌≢◌}
use mathlib.Core.List.{List, [], ◌∷◌}
use lib.IntN.{ℤ, pos}
use borrow.Author.Tests.{not-true}
use Rattle.model.specs.declared.Engine.{Engine}
use Rattle.model.specs.declared.Engine.TheVariants.{Plain, Quick}
use Rattle.model.specs.Limits.{slots, all_semaphores, all_adjustments}
use Rattle.model.specs.State.{Sleeper, State, fresh_state, no_set}
use Rattle.model.specs.Waking.{waker}
use Rattle.model.specs.Clock.{not_due}
use Rattle.model.specs.Checks.{slot_of, free_slot, check_caller, check_create, check_query, check_read_all, check_remove, check_process, check_clock}
use Rattle.model.specs.Events.{Event, create, operate, set_value, remove, signal, exit, query, set_all, read_all, clock, act_as, event, keep, do_create, do_remove, do_signal, do_query, do_read_all, do_clock, do_act_as, not_of, not_mine}
use Rattle.model.specs.Runs.{Run, run, Reached, start, came, none, Pairwise, end, next, Alike, EnginesAgree}
use Rattle.model.specs.Invariant.{Fits, Invariant, alone, count_at}
use Rattle.model.proofs.Lists.{all_map, all_replicate}
use Rattle.model.proofs.QueueLaws.{keep_test}
use Rattle.model.proofs.CleanLaws.{fresh_clean}
use Rattle.model.proofs.CheckLaws.{alive, Creatable, create_passes, remove_passes, clock_passes}
use Rattle.model.proofs.Agree.{slot_other}
use Rattle.model.proofs.EventLaws.{Agrees, quiet, checked_agrees, cleared_kept, keep_kept}
use Rattle.model.proofs.WakingEvents.{operate_agrees, set_value_agrees, set_all_agrees, exit_agrees}

-- ---- the events that wake nobody by a rule

create_agrees : (s : State) (p count mode : ℕ) → Invariant s → Agrees (do_create s p count mode) (do_create s p count mode)
unfolding do_create
create_agrees s p count mode i =
    checked_agrees (check_create s p count mode) s _ _ i (λ e.
    let c : Creatable s p count = create_passes s p count mode e in
    quiet _ refl (cleared_kept s (free_slot s.sets) _ i c.slot c.fits (λ e. absurd (omega (arith, e, c.some))) (all_map (away c) i.fits)))
  where
    away : Creatable s p count → (q : Sleeper) → Fits s.sets q → q.slot ≢ free_slot s.sets
    away c q f e = let x : 0 < count_at s.sets (free_slot s.sets) = rw e at (alive s.sets q f) in omega (arith, x, c.free)

remove_agrees : (s : State) (p : ℕ) (i : ℤ) → Invariant s → Agrees (do_remove s p i) (do_remove s p i)
unfolding do_remove
remove_agrees s p j i =
    checked_agrees (check_remove s p j) s _ _ i (λ e.
    quiet _ refl (cleared_kept (record { sets = s.sets; callers = s.callers; table = s.table; queue = keep (not_mine (slot_of j)) s.queue; time = s.time }) (slot_of j) _ (keep_kept s (not_mine (slot_of j)) i) (remove_passes s p j e).slot (omega arith) (λ e. refl)
    (all_map (λ c n. slot_other (slot_of j) c (not-true _ n)) (keep_test (not_mine (slot_of j)) s.queue))))

signal_agrees : (s : State) (p : ℕ) → Invariant s → Agrees (do_signal s p) (do_signal s p)
unfolding do_signal
signal_agrees s p i = checked_agrees (check_process p) s _ _ i (λ e. quiet _ refl (keep_kept s (not_of p) i))

query_agrees : (s : State) (p : ℕ) (i : ℤ) (n : ℕ) → Invariant s → Agrees (do_query s p i n) (do_query s p i n)
unfolding do_query
query_agrees s p j n i = checked_agrees (check_query s p j n) s _ _ i (λ e. quiet _ refl i)

read_all_agrees : (s : State) (p : ℕ) (i : ℤ) → Invariant s → Agrees (do_read_all s p i) (do_read_all s p i)
unfolding do_read_all
read_all_agrees s p j i = checked_agrees (check_read_all s p j) s _ _ i (λ e. quiet _ refl i)

-- the invariant says nothing of the callers
act_as_agrees : (s : State) (p user group : ℕ) → Invariant s → Agrees (do_act_as s p user group) (do_act_as s p user group)
unfolding do_act_as
act_as_agrees s p user group i =
    checked_agrees (check_caller s p) s _ _ i (λ e.
    quiet _ refl
    (record {
      sets = i.sets;
      counts = i.counts;
      vacant = i.vacant;
      good = i.good;
      clean = i.clean;
      fits = i.fits;
      distinct = i.distinct;
      stuck = i.stuck;
      time = i.time;
      in_time = i.in_time;
    }))

-- whoever is left is not due
clock_agrees : (s : State) (now : ℕ) → Invariant s → Agrees (do_clock s now) (do_clock s now)
unfolding do_clock
clock_agrees s now i =
    checked_agrees (check_clock s now) s _ _ i (λ e.
    let k = keep_kept s (not_due now) i in
    quiet _ refl
    (record {
      sets = k.sets;
      counts = k.counts;
      vacant = k.vacant;
      good = k.good;
      clean = k.clean;
      fits = k.fits;
      distinct = k.distinct;
      stuck = k.stuck;
      time = (clock_passes s now e).1;
      in_time = all_map (λ q n. not-true _ n) (keep_test (not_due now) s.queue);
    }))

-- ---- any event

pub event_agrees : (s : State) (e : Event) → Invariant s → Agrees (event (waker Quick) s e) (event (waker Plain) s e)
unfolding event
event_agrees s (create p count mode) i = create_agrees s p count mode i
event_agrees s (operate p j wait bytes) i = operate_agrees s p j wait bytes i
event_agrees s (set_value p j n v) i = set_value_agrees s p j n v i
event_agrees s (remove p j) i = remove_agrees s p j i
event_agrees s (signal p) i = signal_agrees s p i
event_agrees s (exit p) i = exit_agrees s p i
event_agrees s (query p j n) i = query_agrees s p j n i
event_agrees s (set_all p j bytes) i = set_all_agrees s p j bytes i
event_agrees s (read_all p j) i = read_all_agrees s p j i
event_agrees s (clock now) i = clock_agrees s now i
event_agrees s (act_as p user group) i = act_as_agrees s p user group i

pub event_kept : (engine : Engine) (s : State) (e : Event) → Invariant s → Invariant (event (waker engine) s e).state
event_kept Quick s e i = (event_agrees s e i).kept
event_kept Plain s e i = rw (event_agrees s e i).state at (event_agrees s e i).kept

pub event_looks : (engine : Engine) (s : State) (e : Event) → Invariant s → (event (waker engine) s e).looks ≤ 28
event_looks Quick s e i = omega (arith, (event_agrees s e i).alike.fewer, (event_agrees s e i).alike.bounded)
event_looks Plain s e i = (event_agrees s e i).alike.bounded

-- ---- every state

pub fresh_invariant : Invariant fresh_state
fresh_invariant =
    record {
      sets = refl;
      counts = all_replicate slots no_set (omega arith);
      vacant = all_replicate slots no_set (λ e. refl);
      good = record {
        values = refl;
        lasts = refl;
        adjustments = refl;
        small = all_replicate all_semaphores 0 (omega arith);
        ranged = all_replicate all_adjustments (pos 0) (omega arith);
      };
      clean = fresh_clean;
      fits = none;
      distinct = alone;
      stuck = none;
      time = omega arith;
      in_time = none;
    }

pub reached : {s : State} → Reached s → Invariant s
reached start = fresh_invariant
reached (came {s = s} r engine e) = event_kept engine s e (reached r)

-- ---- every list of events

-- two runs: alike event by event, the same last state, and its invariant
record RunsAgree (quick plain : Run) : Type 0 where
  each : Pairwise Alike quick.results plain.results
  last : quick.last ≡ plain.last
  kept : Invariant quick.last

runs_agree : (s : State) (events : List Event) → Invariant s → RunsAgree (run Quick s events) (run Plain s events)
unfolding run
runs_agree s [] i = record { each = end; last = refl; kept = i }
runs_agree s (e ∷ events) i =
    let a : Agrees (event (waker Quick) s e) (event (waker Plain) s e) = event_agrees s e i in
    let r : RunsAgree (run Quick (event (waker Quick) s e).state events) (run Plain (event (waker Quick) s e).state events) = runs_agree (event (waker Quick) s e).state events a.kept in
    let q : RunsAgree (run Quick (event (waker Quick) s e).state events) (run Plain (event (waker Plain) s e).state events) =
    subst (λ (x : State). RunsAgree (run Quick (event (waker Quick) s e).state events) (run Plain x events)) a.state r in
    record { each = next a.alike q.each; last = q.last; kept = q.kept }

-- Demand 3: at each event the same answer and the same wakings, quick looks ≤ plain looks ≤ 28; the same last state; and none of
-- its sleepers could finish or is overdue.
pub engines_agree : (events : List Event) → EnginesAgree events
engines_agree events =
    let r : RunsAgree (run Quick fresh_state events) (run Plain fresh_state events) = runs_agree fresh_state events fresh_invariant in
    record { alike = r.each; last = r.last; stuck = r.kept.stuck; in_time = r.kept.in_time }
