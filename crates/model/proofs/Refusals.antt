-- A refused event changes nothing and answers its code, with the operation that judging names: for every event, state and engine, without a premise (specs/Runs.antt).
use Prim.Native.Nat.{ℕ, zero, suc}
use native.Mathlib.Omega.{arith}
use mathlib.Core.Path.{◌≡◌, refl, ap}
use lib.IntN.{pos}
use Rattle.model.specs.declared.Outcome.{Outcome}
use Rattle.model.specs.declared.Outcome.TheVariants.{Done, Sleep, Again, Range}
use Rattle.model.specs.declared.Copies.{Copies}
use Rattle.model.specs.declared.Engine.{Engine}
use Rattle.model.specs.State.{State, Sleeper}
use Rattle.model.specs.Judge.{code_of, Position}
use Rattle.model.specs.Waking.{Waker, waker}
use Rattle.model.specs.Clock.{at_once}
use Rattle.model.specs.Checks.{check_caller, check_create, check_operate, check_query, check_set_value, check_set_all, check_read_all, check_remove, check_process, check_clock}
use Rattle.model.specs.Events.{Event, create, operate, set_value, remove, signal, exit, query, set_all, read_all, clock, act_as, Result, refused_at, checked, would_sleep, operated, event, do_create, do_operate, do_set_value, do_remove, do_signal, do_exit, do_query, do_set_all, do_read_all, do_clock, do_act_as}
use Rattle.model.specs.Runs.{RefusedWhole, Refuses}
use Rattle.model.proofs.JudgeLaws.{either}
use Rattle.std.specs.Prelude.{None}

-- the code of a refusal, and the operation that it names, tell all of it
same_code : (s : State) (a b : ℕ) (at : Position) → pos a ≡ pos b → refused_at s a at ≡ refused_at s b at
same_code s a b at e = let n : a ≡ b = cc in ap (λ (c : ℕ). refused_at s c at) n

-- an answer of 0 is no refusal
done : {s : State} (r : Result) → r.answer.code ≡ pos 0 → Refuses s r
done r z code e = let n : ◌≡◌ {A = ℕ} 0 (suc code) = cc in absurd (omega arith)

-- an event is refused by a check, or as what it does
by_check : (code : ℕ) (s : State) (r : Result) → Refuses s r → Refuses s (checked code s r)
by_check zero s r h = h
by_check (suc n) s r h = λ code e. same_code s (suc n) (suc code) None e

-- a call that would sleep is refused if it may not wait
would_sleep_refuses : (s : State) (c : Sleeper) (at : Position) → Refuses s (would_sleep s c at)
unfolding would_sleep code_of
would_sleep_refuses s c at =
    either (Refuses s) (at_once c.wait) _ _ (λ code e. same_code s 11 (suc code) at e) (λ code e. let n : ◌≡◌ {A = ℕ} 0 1 = cc in absurd (omega arith))

operated_refuses : (wake : Waker) (s : State) (c : Sleeper) (x : Outcome) (at : Position) (copies : Copies) → Refuses s (operated wake s c x at copies)
unfolding operated
operated_refuses wake s c Done at copies = done _ refl
operated_refuses wake s c Sleep at copies = would_sleep_refuses s c at
operated_refuses wake s c Again at copies = λ code e. same_code s 11 (suc code) at e
operated_refuses wake s c Range at copies = λ code e. same_code s 34 (suc code) at e

-- Demand 1.
pub refused_whole : (engine : Engine) (s : State) (e : Event) → RefusedWhole engine s e
unfolding event do_create do_operate do_set_value do_remove do_signal do_exit do_query do_set_all do_read_all do_clock do_act_as
refused_whole engine s (create p count mode) = by_check (check_create s p count mode) s _ (done _ refl)
refused_whole engine s (operate p i wait bytes) = by_check (check_operate s p i bytes) s _ (operated_refuses (waker engine) s _ _ _ _)
refused_whole engine s (set_value p i n v) = by_check (check_set_value s p i n v) s _ (done _ refl)
refused_whole engine s (remove p i) = by_check (check_remove s p i) s _ (done _ refl)
refused_whole engine s (signal p) = by_check (check_process p) s _ (done _ refl)
refused_whole engine s (exit p) = by_check (check_process p) s _ (done _ refl)
refused_whole engine s (query p i n) = by_check (check_query s p i n) s _ (done _ refl)
refused_whole engine s (set_all p i bytes) = by_check (check_set_all s p i bytes) s _ (done _ refl)
refused_whole engine s (read_all p i) = by_check (check_read_all s p i) s _ (done _ refl)
refused_whole engine s (clock now) = by_check (check_clock s now) s _ (done _ refl)
refused_whole engine s (act_as p user group) = by_check (check_caller s p) s _ (done _ refl)
