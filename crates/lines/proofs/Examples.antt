-- Lines, computed: those of document 01's whole example, the forms of document 02, and numbers at their ends.
use mathlib.Core.Path.{◌≡◌, refl}
use mathlib.Core.List.{[], ◌∷◌}
use lib.IntN.{pos, negsuc}
use Rattle.model.specs.Waking.{waking}
use Rattle.lines.specs.Text.{digits_in, digits_of, signed_of, word_line, head_line, bad_line, position_text, waking_text, wakings_text, event_text, query_text, numbers_text, read_text}
use Rattle.std.specs.Prelude.{Some, None}

-- `0`, `32767`
zero_digits : digits_of 0 ≡ 48 ∷ []
unfolding digits_in digits_of
zero_digits = refl

most_digits : digits_of 32767 ≡ 51 ∷ 50 ∷ 55 ∷ 54 ∷ 55 ∷ []
unfolding digits_in digits_of
most_digits = refl

-- `events 3`, `1 -1@0 0 0`, `2 0 0 1 1=0`
head_three : head_line 3 ≡ 101 ∷ 118 ∷ 101 ∷ 110 ∷ 116 ∷ 115 ∷ 32 ∷ 51 ∷ 10 ∷ []
unfolding digits_in digits_of word_line
head_three = refl

asleep : event_text 1 (negsuc 0) (Some 0) 0 0 [] ≡ 49 ∷ 32 ∷ 45 ∷ 49 ∷ 64 ∷ 48 ∷ 32 ∷ 48 ∷ 32 ∷ 48 ∷ 10 ∷ []
unfolding digits_in digits_of signed_of position_text wakings_text event_text
asleep = refl

woke_one : event_text 2 (pos 0) None 0 1 (waking 1 (pos 0) None ∷ []) ≡ 50 ∷ 32 ∷ 48 ∷ 32 ∷ 48 ∷ 32 ∷ 49 ∷ 32 ∷ 49 ∷ 61 ∷ 48 ∷ 10 ∷ []
unfolding digits_in digits_of signed_of position_text waking_text wakings_text event_text
woke_one = refl

-- the forms of document 02: `4 34@2 0 0`, and ` 3=11@1` of a line
out_of_range : event_text 4 (pos 34) (Some 2) 0 0 [] ≡ 52 ∷ 32 ∷ 51 ∷ 52 ∷ 64 ∷ 50 ∷ 32 ∷ 48 ∷ 32 ∷ 48 ∷ 10 ∷ []
unfolding digits_in digits_of signed_of position_text wakings_text event_text
out_of_range = refl

would_sleep_lem : waking_text 3 (pos 11) (Some 1) ≡ 32 ∷ 51 ∷ 61 ∷ 49 ∷ 49 ∷ 64 ∷ 49 ∷ []
unfolding digits_in digits_of signed_of position_text waking_text
would_sleep_lem = refl

-- an expiry: ` 1=11`
gave_up : waking_text 1 (pos 11) None ≡ 32 ∷ 49 ∷ 61 ∷ 49 ∷ 49 ∷ []
unfolding digits_in digits_of signed_of position_text waking_text
gave_up = refl

-- `bad 202`, and a refused query at position 10: `10 22 0 0 0 0`
bad_chain : bad_line 202 ≡ 98 ∷ 97 ∷ 100 ∷ 32 ∷ 50 ∷ 48 ∷ 50 ∷ 10 ∷ []
unfolding digits_in digits_of word_line
bad_chain = refl

refused_query : query_text 10 (pos 22) 0 0 0 0 ≡ 49 ∷ 48 ∷ 32 ∷ 50 ∷ 50 ∷ 32 ∷ 48 ∷ 32 ∷ 48 ∷ 32 ∷ 48 ∷ 32 ∷ 48 ∷ 10 ∷ []
unfolding digits_in digits_of signed_of query_text
refused_query = refl

-- a reading of two semaphores, one waiting for an increase of the first: `4 0 0 1 0 0 0 0`; and a refused one, `7 22`
two_read : read_text 4 (pos 0) (0 ∷ 1 ∷ 0 ∷ 0 ∷ 0 ∷ 0 ∷ []) ≡ 52 ∷ 32 ∷ 48 ∷ 32 ∷ 48 ∷ 32 ∷ 49 ∷ 32 ∷ 48 ∷ 32 ∷ 48 ∷ 32 ∷ 48 ∷ 32 ∷ 48 ∷ 10 ∷ []
unfolding digits_in digits_of signed_of numbers_text read_text
two_read = refl

refused_reading : read_text 7 (pos 22) [] ≡ 55 ∷ 32 ∷ 50 ∷ 50 ∷ 10 ∷ []
unfolding digits_in digits_of signed_of numbers_text read_text
refused_reading = refl
