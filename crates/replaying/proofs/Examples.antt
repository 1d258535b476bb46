-- "Whole example, 45 bytes", from its bytes to its text, which now names the operation that stopped, computed in both engines.
use Prim.Native.Nat.{ℕ}
use mathlib.Core.Path.{◌≡◌, refl}
use mathlib.Core.List.{List, [], ◌∷◌}
use Rattle.model.specs.declared.Engine.{Engine}
use Rattle.model.specs.declared.Engine.TheVariants.{Plain, Quick}
use Rattle.model.specs.Operation.{signed16, operations_from, is_zero}
use Rattle.model.specs.Judge.{next_value, next_adjustment, step, go_on, judge_from, code_of, decided_at, finishes}
use Rattle.model.specs.Look.{values_of, adjustments_of, look, lasts_after, applied, after}
use Rattle.model.specs.Marks.{unmark, marked, named_by, differing, mine, mask_of}
use Rattle.model.specs.Waking.{without, finish, plain_round, quick_round, plain, quick, waker}
use Rattle.model.specs.Checks.{identifier_of, slot_of, names_set, no_process, asleep, number_too_high, permitted, free_from, check_caller, check_create, check_operate}
use Rattle.model.specs.Permission.{class_bits, permits}
use Rattle.model.specs.State.{clear_rows, cleared}
use Rattle.model.specs.Clock.{at_once}
use Rattle.model.specs.Events.{do_create, would_sleep, operated, do_operate, event}
use Rattle.model.specs.Runs.{run}
use Rattle.model.specs.Values.{signed32}
use Rattle.runfile.specs.Fields.{word_at}
use Rattle.runfile.specs.Table.{count_in, entries_from, chains}
use Rattle.runfile.specs.Body.{fixed_of, each_of, size_in, handed_in, event_in, body_code}
use Rattle.runfile.specs.File.{file_of, events_of}
use Rattle.runfile.proofs.Examples.{example}
use Rattle.lines.specs.Text.{digits_in, digits_of, signed_of, word_line, position_text, waking_text, wakings_text, event_text, line_of, text_of}
use Rattle.replaying.specs.Replay.{first_line, events_in, text_of_file, replayed}

-- `events 3`, `0 0 0 0`, `1 -1@0 0 0`, `2 0 0 1 1=0`
abbrev text : List ℕ
text =
    101 ∷ 118 ∷ 101 ∷ 110 ∷ 116 ∷ 115 ∷ 32 ∷ 51 ∷ 10
    ∷ 48 ∷ 32 ∷ 48 ∷ 32 ∷ 48 ∷ 32 ∷ 48 ∷ 10
    ∷ 49 ∷ 32 ∷ 45 ∷ 49 ∷ 64 ∷ 48 ∷ 32 ∷ 48 ∷ 32 ∷ 48 ∷ 10
    ∷ 50 ∷ 32 ∷ 48 ∷ 32 ∷ 48 ∷ 32 ∷ 49 ∷ 32 ∷ 49 ∷ 61 ∷ 48 ∷ 10 ∷ []

whole_example : (engine : Engine) → replayed engine example ≡ text
unfolding first_line events_in text_of_file text_of line_of event_text position_text wakings_text waking_text word_line signed_of digits_of digits_in file_of events_of body_code event_in handed_in size_in fixed_of each_of chains entries_from count_in signed32 word_at run event do_create would_sleep at_once operated do_operate identifier_of slot_of names_set no_process asleep number_too_high class_bits permits permitted free_from check_caller check_create check_operate clear_rows cleared waker plain quick plain_round quick_round finish without look lasts_after applied after values_of adjustments_of judge_from go_on step next_value next_adjustment code_of decided_at finishes operations_from signed16 is_zero unmark marked named_by differing mine mask_of
whole_example Plain = refl
whole_example Quick = refl
