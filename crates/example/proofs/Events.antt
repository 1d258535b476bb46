-- The example's three events by the definitions: a set is made, a process sleeps at its first operation, another wakes it with one
-- look.
use mathlib.Core.Path.{◌≡◌, refl, sym, ap, subst, ◌∙◌}
use Prim.Native.Nat.{ℕ}
use mathlib.Core.List.{List, [], ◌∷◌}
use lib.IntN.{pos}
use lib.ListN.{length}
use Rattle.model.specs.declared.Engine.TheVariants.{Quick}
use Rattle.model.specs.State.{State, fresh_state, clear_rows, cleared}
use Rattle.host.specs.Holding.{Host, host_of, state_in, Held}
use Rattle.host.proofs.HeldLaws.{state_back, held_of}
use Rattle.service.specs.After.{After, after_of}
use Rattle.model.specs.Runs.{Reached, start, came}
use Rattle.model.specs.Operation.{signed16, operations_from, is_zero}
use Rattle.model.specs.Judge.{next_value, next_adjustment, step, go_on, judge_from, code_of, decided_at, finishes}
use Rattle.model.specs.Look.{values_of, adjustments_of, look, lasts_after, applied, after}
use Rattle.model.specs.Marks.{unmark, marked, named_by, differing, mine, mask_of}
use Rattle.model.specs.Waking.{without, finish, plain_round, quick_round, plain, quick, waker}
use Rattle.model.specs.Clock.{at_once}
use Rattle.model.specs.Checks.{identifier_of, slot_of, names_set, no_process, asleep, number_too_high, permitted, free_from, check_caller, check_create, check_operate}
use Rattle.model.specs.Permission.{class_bits, permits}
use Rattle.model.specs.Events.{Result, create, operate, clear_number, assigned, cut, undo_all, exited, keep, ended_with, do_create, would_sleep, operated, do_operate, do_set_value, do_remove, treat, treat_from, touched_from, do_exit, do_query, event}
use Rattle.std.specs.Prelude.{Some, None}

-- one off semaphore 0, and one back
abbrev pub take : List ℕ
take = 0 ∷ 0 ∷ 255 ∷ 255 ∷ 0 ∷ 0 ∷ []

abbrev pub give : List ℕ
give = 0 ∷ 0 ∷ 1 ∷ 0 ∷ 0 ∷ 0 ∷ []

-- the results that the definitions give for the three events
abbrev pub created : Result
created = event (waker Quick) fresh_state (create 1 1 511)

abbrev pub slept : Result
slept = event (waker Quick) created.state (operate 1 (pos 0) None take)

abbrev pub given : Result
given = event (waker Quick) slept.state (operate 2 (pos 0) None give)

pub after_create : Reached created.state
after_create = came start Quick (create 1 1 511)

pub after_sleep : Reached slept.state
after_sleep = came after_create Quick _

-- ---- what is left behind each event, of a host that is as the one before it left it

-- such a host may be lent, and holds the state
module _ {s : State} (k : Reached s) {x : Host} (e : x ≡ host_of s) where
  pub held : Held x
  held = subst Held (sym e) (held_of k)

  state : state_in x ≡ s
  state = ap state_in e ∙ state_back k

pub is_created : {x : Host} {a : After} → x ≡ host_of fresh_state → a ≡ after_of (do_create (state_in x) 1 1 511) → a ≡ after_of created
unfolding event
is_created e r = r ∙ ap (λ (s : State). after_of (do_create s 1 1 511)) (state start e)

pub is_slept : {x : Host} {a : After} → x ≡ host_of created.state → a ≡ after_of (do_operate (waker Quick) (state_in x) 1 (pos 0) None take) → a ≡ after_of slept
unfolding event
is_slept e r = r ∙ ap (λ (s : State). after_of (do_operate (waker Quick) s 1 (pos 0) None take)) (state after_create e)

pub is_given : {x : Host} {a : After} → x ≡ host_of slept.state → a ≡ after_of (do_operate (waker Quick) (state_in x) 2 (pos 0) None give) → a ≡ after_of given
unfolding event
is_given e r = r ∙ ap (λ (s : State). after_of (do_operate (waker Quick) s 2 (pos 0) None give)) (state after_sleep e)

-- ---- what the three events give, computed

pub slept_looks : slept.looks ≡ 0
unfolding event do_create would_sleep at_once operated do_operate do_set_value do_remove treat treat_from touched_from do_exit do_query identifier_of slot_of names_set no_process asleep number_too_high class_bits permits permitted free_from check_caller check_create check_operate clear_rows cleared clear_number assigned cut undo_all exited keep ended_with waker plain quick plain_round quick_round finish without look lasts_after applied after values_of adjustments_of judge_from go_on step next_value next_adjustment code_of finishes operations_from signed16 is_zero unmark marked named_by differing mine mask_of
slept_looks = refl

-- it stops at its first operation
pub slept_position : slept.answer.position ≡ Some 0
unfolding event do_create would_sleep at_once operated do_operate do_set_value do_remove treat treat_from touched_from do_exit do_query identifier_of slot_of names_set no_process asleep number_too_high class_bits permits permitted free_from check_caller check_create check_operate clear_rows cleared clear_number assigned cut undo_all exited keep ended_with waker plain quick plain_round quick_round finish without look lasts_after applied after values_of adjustments_of judge_from go_on step next_value next_adjustment code_of decided_at finishes operations_from signed16 is_zero unmark marked named_by differing mine mask_of
slept_position = refl

pub given_looks : given.looks ≡ 1
unfolding event do_create would_sleep at_once operated do_operate do_set_value do_remove treat treat_from touched_from do_exit do_query identifier_of slot_of names_set no_process asleep number_too_high class_bits permits permitted free_from check_caller check_create check_operate clear_rows cleared clear_number assigned cut undo_all exited keep ended_with waker plain quick plain_round quick_round finish without look lasts_after applied after values_of adjustments_of judge_from go_on step next_value next_adjustment code_of finishes operations_from signed16 is_zero unmark marked named_by differing mine mask_of
given_looks = refl

pub given_wakings : length given.wakings ≡ 1
unfolding event do_create would_sleep at_once operated do_operate do_set_value do_remove treat treat_from touched_from do_exit do_query identifier_of slot_of names_set no_process asleep number_too_high class_bits permits permitted free_from check_caller check_create check_operate clear_rows cleared clear_number assigned cut undo_all exited keep ended_with waker plain quick plain_round quick_round finish without look lasts_after applied after values_of adjustments_of judge_from go_on step next_value next_adjustment code_of finishes operations_from signed16 is_zero unmark marked named_by differing mine mask_of
given_wakings = refl
