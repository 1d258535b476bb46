-- "A body begins with its kind". A definition whose name ends in `In` takes the bytes from where the body begins on, one whose
-- name ends in `At` the file and that place.
--
-- A new kind has its two numbers here, a line in `fixed_of` and one in `event_in`; where bytes of the body are handed on beside
-- its event, it is in `each_of` too.
use Rattle.std.specs.Prelude.{ℕ, zero, suc, ◌+◌, ◌*◌, ◌-◌, cond, List, [], ◌∷◌, eqb, ℤ, pos, take, drop, Some, None}
use Rattle.model.specs.Limits.{operation_bytes, value_bytes}
use Rattle.model.specs.Events.{Event, create, operate, set_value, remove, signal, exit, query, set_all, read_all, clock, act_as}
use Rattle.runfile.specs.Fields.{byte_at, half_at, word_at, long_at, signed_at}

-- ---- the kinds, in the order of the table in "The run file": the number of each, and the bytes of its body. An operate has
-- more bytes, for its operations, and a setting for its values.

abbrev pub create_kind : ℕ
create_kind = 1

abbrev pub create_bytes : ℕ
create_bytes = 5

abbrev pub operate_kind : ℕ
operate_kind = 2

abbrev pub operate_bytes : ℕ
operate_bytes = 7

abbrev pub set_value_kind : ℕ
set_value_kind = 3

abbrev pub set_value_bytes : ℕ
set_value_bytes = 12

abbrev pub remove_kind : ℕ
remove_kind = 4

abbrev pub remove_bytes : ℕ
remove_bytes = 6

abbrev pub signal_kind : ℕ
signal_kind = 5

abbrev pub signal_bytes : ℕ
signal_bytes = 2

abbrev pub exit_kind : ℕ
exit_kind = 6

abbrev pub exit_bytes : ℕ
exit_bytes = 2

abbrev pub query_kind : ℕ
query_kind = 7

abbrev pub query_bytes : ℕ
query_bytes = 8

abbrev pub operate_within_kind : ℕ
operate_within_kind = 8

abbrev pub operate_within_bytes : ℕ
operate_within_bytes = 11

abbrev pub clock_kind : ℕ
clock_kind = 9

abbrev pub clock_bytes : ℕ
clock_bytes = 9

abbrev pub set_all_kind : ℕ
set_all_kind = 10

abbrev pub set_all_bytes : ℕ
set_all_bytes = 7

abbrev pub read_all_kind : ℕ
read_all_kind = 11

abbrev pub read_all_bytes : ℕ
read_all_bytes = 6

abbrev pub act_as_kind : ℕ
act_as_kind = 12

abbrev pub act_as_bytes : ℕ
act_as_bytes = 10

-- the bytes of a body, before its operations or values; 0 for an unknown kind
unfoldable pub fixed_of : ℕ → ℕ
fixed_of kind =
    cond (eqb kind create_kind) create_bytes
    (cond (eqb kind operate_kind) operate_bytes
    (cond (eqb kind set_value_kind) set_value_bytes
    (cond (eqb kind remove_kind) remove_bytes
    (cond (eqb kind signal_kind) signal_bytes
    (cond (eqb kind exit_kind) exit_bytes
    (cond (eqb kind query_kind) query_bytes
    (cond (eqb kind operate_within_kind) operate_within_bytes
    (cond (eqb kind clock_kind) clock_bytes
    (cond (eqb kind set_all_kind) set_all_bytes
    (cond (eqb kind read_all_kind) read_all_bytes
    (cond (eqb kind act_as_kind) act_as_bytes
    0)))))))))))

-- "number of operations 1, six bytes each", "number of values 1, each value 4 signed": the bytes of each; no other kind has any
unfoldable pub each_of : ℕ → ℕ
each_of kind =
    cond (eqb kind operate_kind) operation_bytes
    (cond (eqb kind operate_within_kind) operation_bytes
    (cond (eqb kind set_all_kind) value_bytes
    0))

-- where their number stands: right before the first of them
abbrev pub number_at : ℕ → ℕ
number_at kind = fixed_of kind - 1

-- the bytes of a body, by its kind and the number of its operations or values
abbrev pub size_of : ℕ → ℕ → ℕ
size_of kind number = fixed_of kind + each_of kind * number

-- ---- one body

abbrev pub kind_in : List ℕ → ℕ
kind_in body = byte_at body 0

-- "a process, one byte behind the kind": of every kind but a clock
abbrev pub process_in : List ℕ → ℕ
process_in body = byte_at body 1

-- the set that is named, behind the process
abbrev pub identifier_in : List ℕ → ℤ
identifier_in body = signed_at body 2

abbrev pub number_in : List ℕ → ℕ
number_in body = byte_at body (number_at (kind_in body))

-- a body too short to have its number: whatever is read in its place, more bytes are due than it has
unfoldable pub size_in : List ℕ → ℕ
size_in body = size_of (kind_in body) (number_in body)

-- the bytes that are handed on beside the event: an operate's operations, or a setting's values
unfoldable pub handed_in : List ℕ → List ℕ
handed_in body = take (each_of (kind_in body) * number_in body) (drop (fixed_of (kind_in body)) body)

-- The bytes behind the kind and the process. 1 create: count 1, bits 2. 2 operate: identifier 4 signed, number of operations 1,
-- six bytes each. 3 set value: identifier 4, number 2, value 4 signed. 4 remove: identifier 4. 5 signal, 6 exit: none. 7 query:
-- identifier 4, number 2. 8 operate: as kind 2, the wait in 4 bytes before the number. 9 clock, with no process: time 8. 10 set
-- all: identifier 4, number of values 1, each value 4 signed. 11 read all: identifier 4. 12 act as: user 4, group 4. "Other fields
-- are unsigned." No good file has another kind; what stands for its event is never run.
unfoldable pub event_in : List ℕ → Event
event_in body =
    cond (eqb (kind_in body) create_kind) (create (process_in body) (byte_at body 2) (half_at body 3))
    (cond (eqb (kind_in body) operate_kind) (operate (process_in body) (identifier_in body) None (handed_in body))
    (cond (eqb (kind_in body) set_value_kind) (set_value (process_in body) (identifier_in body) (half_at body 6) (signed_at body 8))
    (cond (eqb (kind_in body) remove_kind) (remove (process_in body) (identifier_in body))
    (cond (eqb (kind_in body) signal_kind) (signal (process_in body))
    (cond (eqb (kind_in body) exit_kind) (exit (process_in body))
    (cond (eqb (kind_in body) query_kind) (query (process_in body) (identifier_in body) (half_at body 6))
    (cond (eqb (kind_in body) operate_within_kind) (operate (process_in body) (identifier_in body) (Some (word_at body 6)) (handed_in body))
    (cond (eqb (kind_in body) clock_kind) (clock (long_at body 1))
    (cond (eqb (kind_in body) set_all_kind) (set_all (process_in body) (identifier_in body) (handed_in body))
    (cond (eqb (kind_in body) read_all_kind) (read_all (process_in body) (identifier_in body))
    (cond (eqb (kind_in body) act_as_kind) (act_as (process_in body) (word_at body 2) (word_at body 6))
    (query 0 (pos 0) 0))))))))))))

-- ---- in a file

abbrev pub size_at : List ℕ → ℕ → ℕ
size_at file at = size_in (drop at file)

abbrev pub event_at : List ℕ → ℕ → Event
event_at file at = event_in (drop at file)

abbrev pub handed_at : List ℕ → ℕ → List ℕ
handed_at file at = handed_in (drop at file)

-- "body empty: 204, kind unknown: 203, body length wrong for its kind (and number): 204"; 0 if the body is good
unfoldable pub body_code : List ℕ → ℕ → ℕ → ℕ
body_code file at size =
    cond (eqb size 0) 204
    (cond (eqb (size_at file at) 0) 203
    (cond (eqb size (size_at file at)) 0
    204))

-- where the next body begins
abbrev pub next_at : List ℕ → ℕ → ℕ
next_at file at = at + size_at file at

-- the events of so many bodies, from a position on
unfoldable pub events_from : List ℕ → ℕ → ℕ → List Event
events_from file at zero = []
events_from file at (suc n) = event_at file at ∷ events_from file (next_at file at) n
