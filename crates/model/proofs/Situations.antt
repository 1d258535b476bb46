-- Every row of the table of situations holds, by computing: in both engines.
use mathlib.Core.Path.{refl}
use Rattle.model.specs.declared.Engine.TheVariants.{Plain, Quick}
use Rattle.model.specs.Operation.{signed16, operations_from, is_zero, is_negative}
use Rattle.model.specs.Judge.{next_value, next_adjustment, step, go_on, judge_from, code_of, decided_at, finishes}
use Rattle.model.specs.Look.{values_of, adjustments_of, look, lasts_after, applied, after}
use Rattle.model.specs.Marks.{unmark, marked, named_by, differing, every_number, mine, mask_of}
use Rattle.model.specs.Waking.{without, finish, plain_round, quick_round, plain, quick, waker}
use Rattle.model.specs.Counts.{stop, stops_at, for_increase, for_zero, count_of}
use Rattle.model.specs.Checks.{identifier_of, slot_of, names_set, no_process, asleep, number_too_high, permitted, free_from, check_caller, check_access, check_create, check_operate, check_query, in_range, check_set_value, all_in_range, check_set_all, check_remove, check_process, check_clock}
use Rattle.model.specs.Permission.{class_bits, permits, owns}
use Rattle.model.specs.Clock.{over_by, at_once}
use Rattle.model.specs.Values.{signed32, values_from, held}
use Rattle.model.specs.State.{clear_rows, cleared}
use Rattle.model.specs.Events.{clear_number, assigned, cut, undo_all, exited, keep, ended_with, do_create, would_sleep, operated, do_operate, do_set_value, do_remove, do_clock, treat, treat_from, touched_from, do_exit, seen_at, do_query, assigned_all, do_set_all, read_at, read_from, do_read_all, do_act_as, event}
use Rattle.model.specs.Runs.{run, All, none, also}
use Rattle.model.specs.Situations.{Situation, Shows, Holds, situation1, situation2, situation3, situation4, situation5, situation6, situation7, situation8, situation9, situation10, situation11, situation12, situation12b, situation13, situation14, situation15, situation16, situation17, situation18, situation19, situation20, situation21, situation22, situation23, situation24, situation25, situation26, situation27, situation28, situation29, situation30, situation31, situation32, situation33, situation34, situation35, table}

both : (r : Situation) → Shows Plain r → Shows Quick r → Holds r
both r p q Plain = p
both r p q Quick = q

pub situations : All Holds table
unfolding run event do_create would_sleep operated do_operate do_set_value do_remove do_clock over_by at_once check_clock treat treat_from touched_from do_exit seen_at do_query assigned_all do_set_all read_at read_from do_read_all do_act_as signed32 values_from held all_in_range check_set_all every_number stop stops_at for_increase for_zero count_of identifier_of slot_of names_set no_process asleep number_too_high permitted free_from class_bits permits owns check_caller check_access check_create check_operate check_query in_range check_set_value check_remove check_process clear_rows cleared clear_number assigned cut undo_all exited keep ended_with waker plain quick plain_round quick_round finish without look lasts_after applied after values_of adjustments_of judge_from go_on step next_value next_adjustment code_of decided_at finishes operations_from signed16 is_zero is_negative unmark marked named_by differing mine mask_of
situations =
    also (both situation1 refl refl)
    (also (both situation2 refl refl)
    (also (both situation3 refl refl)
    (also (both situation4 refl refl)
    (also (both situation5 refl refl)
    (also (both situation6 refl refl)
    (also (both situation7 refl refl)
    (also (both situation8 refl refl)
    (also (both situation9 refl refl)
    (also (both situation10 refl refl)
    (also (both situation11 refl refl)
    (also (both situation12 refl refl)
    (also (both situation12b refl refl)
    (also (both situation13 refl refl)
    (also (both situation14 refl refl)
    (also (both situation15 refl refl)
    (also (both situation16 refl refl)
    (also (both situation17 refl refl)
    (also (both situation18 refl refl)
    (also (both situation19 refl refl)
    (also (both situation20 refl refl)
    (also (both situation21 refl refl)
    (also (both situation22 refl refl)
    (also (both situation23 refl refl)
    (also (both situation24 refl refl)
    (also (both situation25 refl refl)
    (also (both situation26 refl refl)
    (also (both situation27 refl refl)
    (also (both situation28 refl refl)
    (also (both situation29 refl refl)
    (also (both situation30 refl refl)
    (also (both situation31 refl refl)
    (also (both situation32 refl refl)
    (also (both situation33 refl refl)
    (also (both situation34 refl refl)
    (also (both situation35 refl refl)
    none)))))))))))))))))))))))))))))))))))
