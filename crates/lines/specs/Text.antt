-- The lines that the program writes, as bytes ("The run file").
use Rattle.std.specs.Prelude.{ℕ, zero, suc, ◌+◌, ◌/◌, ◌%◌, cond, List, [], ◌∷◌, ◌++◌, ltb, ℤ, pos, negsuc, Some, None}
use Rattle.model.specs.declared.Waking.{Waking}
use Rattle.model.specs.Events.{Event, Form, as_told, as_seen, as_read, form_of, Answer, Result, numbers_of}
use Rattle.model.specs.Judge.{Position}

-- ---- numbers

abbrev pub blank : ℕ
blank = 32

abbrev pub minus : ℕ
minus = 45

abbrev pub equals : ℕ
equals = 61

abbrev pub at_sign : ℕ
at_sign = 64

abbrev pub newline : ℕ
newline = 10

abbrev pub digit : ℕ → ℕ
digit d = 48 + d

-- the decimal digits of n, the most significant first; the first number is at least n
unfoldable pub digits_in : ℕ → ℕ → List ℕ
digits_in zero n = digit n ∷ []
digits_in (suc f) n = cond (ltb n 10) (digit n ∷ []) (digits_in f (n / 10) ++ digit (n % 10) ∷ [])

unfoldable pub digits_of : ℕ → List ℕ
digits_of n = digits_in n n

-- a minus sign before the digits of a number below zero
unfoldable pub signed_of : ℤ → List ℕ
signed_of (pos n) = digits_of n
signed_of (negsuc n) = minus ∷ digits_of (suc n)

-- ---- lines

-- a word and a number
unfoldable pub word_line : List ℕ → ℕ → List ℕ
word_line word n = word ++ blank ∷ digits_of n ++ newline ∷ []

-- "`events` and the number"
abbrev pub head_line : ℕ → List ℕ
head_line n = word_line (101 ∷ 118 ∷ 101 ∷ 110 ∷ 116 ∷ 115 ∷ []) n

-- "A refused file writes one line, `bad` and the code."
abbrev pub bad_line : ℕ → List ℕ
bad_line code = word_line (98 ∷ 97 ∷ 100 ∷ []) code

-- "the output, as code@position": what stands behind a code, and nothing where no operation decided
unfoldable pub position_text : Position → List ℕ
position_text None = []
position_text (Some k) = at_sign ∷ digits_of k

-- "the wakings as process=code", a blank before each
unfoldable pub waking_text : ℕ → ℤ → Position → List ℕ
waking_text process code decided = blank ∷ digits_of process ++ equals ∷ signed_of code ++ position_text decided

unfoldable pub wakings_text : List Waking → List ℕ
wakings_text [] = []
wakings_text (w ∷ ws) = waking_text w.process w.code w.position ++ wakings_text ws

-- position and code: what the line of any event begins with
abbrev pub opening_text : ℕ → ℤ → List ℕ
opening_text position code = digits_of position ++ blank ∷ signed_of code

-- "position from 0, code, value, quick looks, and the wakings"
unfoldable pub event_text : ℕ → ℤ → Position → ℕ → ℕ → List Waking → List ℕ
event_text position code decided value looks wakings =
    opening_text position code ++ position_text decided ++ blank ∷ digits_of value ++ blank ∷ digits_of looks ++ wakings_text wakings ++ newline ∷ []

-- "A query line is position, code, value, last process, for increase, for zero"
unfoldable pub query_text : ℕ → ℤ → ℕ → ℕ → ℕ → ℕ → List ℕ
query_text position code value last for_increase for_zero =
    opening_text position code ++ blank ∷ digits_of value ++ blank ∷ digits_of last ++ blank ∷ digits_of for_increase ++ blank ∷ digits_of for_zero ++ newline ∷ []

-- numbers, a blank before each
unfoldable pub numbers_text : List ℕ → List ℕ
numbers_text [] = []
numbers_text (n ∷ ns) = (blank ∷ digits_of n) ++ numbers_text ns

-- a reading's "line is position, code, then value, for increase, for zero of each semaphore; refused, position and code only"
unfoldable pub read_text : ℕ → ℤ → List ℕ → List ℕ
read_text position code numbers = opening_text position code ++ numbers_text numbers ++ newline ∷ []

abbrev pub event_line : ℕ → Result → List ℕ
event_line position r = event_text position r.answer.code r.answer.position r.answer.value r.looks r.wakings

abbrev pub query_line : ℕ → Answer → List ℕ
query_line position a = query_text position a.code a.value a.seen.last a.seen.increase a.seen.zero

abbrev pub read_line : ℕ → Answer → List ℕ
read_line position a = read_text position a.code (numbers_of a.all)

-- ---- the lines of a list of events

abbrev pub line_as : Form → ℕ → Result → List ℕ
line_as as_told position r = event_line position r
line_as as_seen position r = query_line position r.answer
line_as as_read position r = read_line position r.answer

unfoldable pub line_of : ℕ → Event → Result → List ℕ
line_of position e r = line_as (form_of e) position r

-- "then a line for each", from a position on
unfoldable pub text_of : ℕ → List Event → List Result → List ℕ
text_of position [] rs = []
text_of position (e ∷ es) [] = []
text_of position (e ∷ es) (r ∷ rs) = line_of position e r ++ text_of (position + 1) es rs
