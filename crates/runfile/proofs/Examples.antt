-- Small files, computed: the whole example of document 01, and one file of each code.
use Prim.Native.Nat.{ℕ}
use mathlib.Core.Path.{◌≡◌, refl}
use mathlib.Core.List.{List, [], ◌∷◌}
use lib.IntN.{pos, negsuc}
use lib.ListN.{length, replicate}
use Rattle.model.specs.Events.{create, operate, set_value, remove, query, set_all, read_all, clock, act_as}
use Rattle.model.specs.Values.{signed32}
use Rattle.runfile.specs.Fields.{word_at, long_at}
use Rattle.runfile.specs.Table.{count_in, entries_from, chains}
use Rattle.runfile.specs.Body.{fixed_of, each_of, size_in, event_in, handed_in, handed_at, body_code}
use Rattle.runfile.specs.File.{file_of, events_of, bad, good, bad_code, code_of_file}
use Rattle.std.specs.Prelude.{Some, None}

-- "Whole example", 45 bytes: a create by process 1 with the mode 0o666
abbrev pub example : List ℕ
example =
    3 ∷ 0
    ∷ 14 ∷ 0 ∷ 5 ∷ 0
    ∷ 19 ∷ 0 ∷ 13 ∷ 0
    ∷ 32 ∷ 0 ∷ 13 ∷ 0
    ∷ 1 ∷ 1 ∷ 1 ∷ 182 ∷ 1
    ∷ 2 ∷ 1 ∷ 0 ∷ 0 ∷ 0 ∷ 0 ∷ 1 ∷ 0 ∷ 0 ∷ 255 ∷ 255 ∷ 0 ∷ 0
    ∷ 2 ∷ 2 ∷ 0 ∷ 0 ∷ 0 ∷ 0 ∷ 1 ∷ 0 ∷ 0 ∷ 1 ∷ 0 ∷ 0 ∷ 0 ∷ []

whole : file_of example
    ≡ good
    (create 1 1 438
    ∷ operate 1 (pos 0) None (0 ∷ 0 ∷ 255 ∷ 255 ∷ 0 ∷ 0 ∷ [])
    ∷ operate 2 (pos 0) None (0 ∷ 0 ∷ 1 ∷ 0 ∷ 0 ∷ 0 ∷ [])
    ∷ [])
unfolding word_at signed32 count_in entries_from chains fixed_of each_of size_in handed_in event_in body_code file_of events_of
whole = refl

-- beside the create nothing is handed on, beside the operate its operation
beside_create : handed_at example 14 ≡ []
unfolding handed_in fixed_of each_of
beside_create = refl

beside_operate : handed_at example 19 ≡ 0 ∷ 0 ∷ 255 ∷ 255 ∷ 0 ∷ 0 ∷ []
unfolding handed_in fixed_of each_of
beside_operate = refl

-- "Two zero bytes are a good file"
none : file_of (0 ∷ 0 ∷ []) ≡ good []
unfolding count_in entries_from chains file_of events_of
none = refl

-- a file of one body
abbrev alone : List ℕ → List ℕ
alone body = 1 ∷ 0 ∷ 6 ∷ 0 ∷ length body ∷ 0 ∷ body

-- an identifier and a value below zero
negative : file_of (alone (3 ∷ 8 ∷ 255 ∷ 255 ∷ 255 ∷ 255 ∷ 2 ∷ 1 ∷ 0 ∷ 0 ∷ 0 ∷ 128 ∷ []))
    ≡ good (set_value 8 (negsuc 0) 258 (negsuc 2147483647) ∷ [])
unfolding word_at signed32 count_in entries_from chains fixed_of each_of size_in handed_in event_in body_code file_of events_of
negative = refl

-- a set removed by process 2, and a semaphore of it looked at by process 3
of_a_set : file_of (2 ∷ 0 ∷ 10 ∷ 0 ∷ 6 ∷ 0 ∷ 16 ∷ 0 ∷ 8 ∷ 0 ∷ 4 ∷ 2 ∷ 4 ∷ 0 ∷ 0 ∷ 0 ∷ 7 ∷ 3 ∷ 4 ∷ 0 ∷ 0 ∷ 0 ∷ 2 ∷ 1 ∷ [])
    ≡ good (remove 2 (pos 4) ∷ query 3 (pos 4) 258 ∷ [])
unfolding word_at signed32 count_in entries_from chains fixed_of each_of size_in event_in body_code file_of events_of
of_a_set = refl

-- an operate with the longest wait, and what is handed on beside it; and 2 ^ 63 + 1 told as the time, in a good file too
waits : List ℕ
waits =
    2 ∷ 0 ∷ 10 ∷ 0 ∷ 17 ∷ 0 ∷ 27 ∷ 0 ∷ 9 ∷ 0
    ∷ 8 ∷ 1 ∷ 4 ∷ 0 ∷ 0 ∷ 0 ∷ 255 ∷ 255 ∷ 255 ∷ 255 ∷ 1 ∷ 0 ∷ 0 ∷ 255 ∷ 255 ∷ 0 ∷ 0
    ∷ 9 ∷ 1 ∷ 0 ∷ 0 ∷ 0 ∷ 0 ∷ 0 ∷ 0 ∷ 128 ∷ []

timed : file_of waits ≡ good (operate 1 (pos 4) (Some 4294967295) (0 ∷ 0 ∷ 255 ∷ 255 ∷ 0 ∷ 0 ∷ []) ∷ clock 9223372036854775809 ∷ [])
unfolding waits word_at long_at signed32 count_in entries_from chains fixed_of each_of size_in handed_in event_in body_code file_of events_of
timed = refl

beside_timed : handed_at waits 10 ≡ 0 ∷ 0 ∷ 255 ∷ 255 ∷ 0 ∷ 0 ∷ []
unfolding waits handed_in fixed_of each_of
beside_timed = refl

-- all values of a set to 1 and -1 by process 3, and what is handed on beside it; and all of it read by process 4
wholes : List ℕ
wholes =
    2 ∷ 0 ∷ 10 ∷ 0 ∷ 15 ∷ 0 ∷ 25 ∷ 0 ∷ 6 ∷ 0
    ∷ 10 ∷ 3 ∷ 4 ∷ 0 ∷ 0 ∷ 0 ∷ 2 ∷ 1 ∷ 0 ∷ 0 ∷ 0 ∷ 255 ∷ 255 ∷ 255 ∷ 255
    ∷ 11 ∷ 4 ∷ 4 ∷ 0 ∷ 0 ∷ 0 ∷ []

whole_set : file_of wholes ≡ good (set_all 3 (pos 4) (1 ∷ 0 ∷ 0 ∷ 0 ∷ 255 ∷ 255 ∷ 255 ∷ 255 ∷ []) ∷ read_all 4 (pos 4) ∷ [])
unfolding wholes word_at signed32 count_in entries_from chains fixed_of each_of size_in handed_in event_in body_code file_of events_of
whole_set = refl

beside_setting : handed_at wholes 10 ≡ 1 ∷ 0 ∷ 0 ∷ 0 ∷ 255 ∷ 255 ∷ 255 ∷ 255 ∷ []
unfolding wholes handed_in fixed_of each_of
beside_setting = refl

-- the table cut off; a body one byte late; a byte too many; an unknown kind; no body, and one too short for its kind
table_cut : file_of (1 ∷ 0 ∷ 6 ∷ 0 ∷ 2 ∷ []) ≡ bad 201
unfolding count_in file_of
table_cut = refl

one_late : file_of (1 ∷ 0 ∷ 7 ∷ 0 ∷ 2 ∷ 0 ∷ 6 ∷ 1 ∷ []) ≡ bad 202
unfolding count_in entries_from chains file_of
one_late = refl

one_more : file_of (0 ∷ 0 ∷ 0 ∷ []) ≡ bad 202
unfolding count_in entries_from chains file_of
one_more = refl

unknown : file_of (alone (255 ∷ 1 ∷ [])) ≡ bad 203
unfolding count_in entries_from chains fixed_of each_of size_in body_code file_of events_of
unknown = refl

empty : file_of (alone []) ≡ bad 204
unfolding count_in entries_from chains body_code file_of events_of
empty = refl

too_short : file_of (alone (2 ∷ 1 ∷ 0 ∷ 0 ∷ 0 ∷ 0 ∷ [])) ≡ bad 204
unfolding count_in entries_from chains fixed_of each_of size_in body_code file_of events_of
too_short = refl

-- the same of a setting, and one whose values are fewer than its number
setting_short : file_of (alone (10 ∷ 1 ∷ 0 ∷ 0 ∷ 0 ∷ 0 ∷ [])) ≡ bad 204
unfolding count_in entries_from chains fixed_of each_of size_in body_code file_of events_of
setting_short = refl

setting_fewer : file_of (alone (10 ∷ 1 ∷ 0 ∷ 0 ∷ 0 ∷ 0 ∷ 2 ∷ 1 ∷ 0 ∷ 0 ∷ 0 ∷ [])) ≡ bad 204
unfolding count_in entries_from chains fixed_of each_of size_in body_code file_of events_of
setting_fewer = refl

-- an operate with a wait that has no byte for its number, and a time in seven bytes
timed_short : file_of (alone (8 ∷ 1 ∷ 0 ∷ 0 ∷ 0 ∷ 0 ∷ 1 ∷ 0 ∷ 0 ∷ 0 ∷ [])) ≡ bad 204
unfolding count_in entries_from chains fixed_of each_of size_in body_code file_of events_of
timed_short = refl

time_short : file_of (alone (9 ∷ 1 ∷ 0 ∷ 0 ∷ 0 ∷ 0 ∷ 0 ∷ 0 ∷ [])) ≡ bad 204
unfolding count_in entries_from chains fixed_of each_of size_in body_code file_of events_of
time_short = refl

-- numbers that use all of their 32 bits
acting : file_of (alone (12 ∷ 3 ∷ 1 ∷ 2 ∷ 3 ∷ 4 ∷ 255 ∷ 255 ∷ 255 ∷ 255 ∷ [])) ≡ good (act_as 3 67305985 4294967295 ∷ [])
unfolding word_at count_in entries_from chains fixed_of each_of size_in event_in body_code file_of events_of
acting = refl

-- a kind behind those that there are
thirteen : file_of (alone (13 ∷ [])) ≡ bad 203
unfolding count_in entries_from chains fixed_of each_of size_in body_code file_of events_of
thirteen = refl

-- bodies that name no caller, each a byte too short; and kind 12 a byte too short and a byte too long
codes : List (List ℕ) → List ℕ
codes [] = []
codes (body ∷ bodies) = code_of_file (alone body) ∷ codes bodies

lengths :
    codes
    ((1 ∷ 1 ∷ 182 ∷ 1 ∷ [])
    ∷ (3 ∷ 0 ∷ 0 ∷ 0 ∷ 0 ∷ 0 ∷ 0 ∷ 5 ∷ 0 ∷ 0 ∷ 0 ∷ [])
    ∷ (4 ∷ 0 ∷ 0 ∷ 0 ∷ 0 ∷ [])
    ∷ (7 ∷ 0 ∷ 0 ∷ 0 ∷ 0 ∷ 0 ∷ 0 ∷ [])
    ∷ (10 ∷ 0 ∷ 0 ∷ 0 ∷ 0 ∷ 1 ∷ 5 ∷ 0 ∷ 0 ∷ 0 ∷ [])
    ∷ (11 ∷ 0 ∷ 0 ∷ 0 ∷ 0 ∷ [])
    ∷ (12 ∷ 3 ∷ 1 ∷ 0 ∷ 0 ∷ 0 ∷ 2 ∷ 0 ∷ 0 ∷ [])
    ∷ (12 ∷ 3 ∷ 1 ∷ 0 ∷ 0 ∷ 0 ∷ 2 ∷ 0 ∷ 0 ∷ 0 ∷ 0 ∷ [])
    ∷ [])
    ≡ replicate 8 204
unfolding codes count_in entries_from chains fixed_of each_of size_in body_code file_of events_of bad_code
lengths = refl
