-- "Events, codes and who is asked first": "first that applies decides". A check's number is the code, 0 if none applies.
use Rattle.std.specs.Prelude.{ℕ, zero, suc, ◌+◌, ◌*◌, ◌/◌, ◌%◌, Bool, true, false, cond, not, ◌||◌, ◌&&◌, List, [], ◌∷◌, eqb, ltb, leb, length, get_or, ℤ, pos, negsuc}
use Rattle.model.specs.declared.Set.{Set}
use Rattle.model.specs.declared.Operation.{Operation}
use Rattle.model.specs.Limits.{slots, semaphores, processes, operations, value_max, mode_max, time_max, operation_bytes, value_bytes}
use Rattle.model.specs.State.{State, Sleeper, caller_of, no_set}
use Rattle.model.specs.Operation.{operations_of, is_zero}
use Rattle.model.specs.Permission.{reading, altering, permits, owns}
use Rattle.model.specs.Values.{values_in}

abbrev pub check : Bool → ℕ → ℕ → ℕ
check applies code later = cond applies code later

-- the code of some checks, else that of later ones
abbrev pub or_else : ℕ → ℕ → ℕ
or_else zero later = later
or_else (suc code) later = suc code

-- a slot that is not free
abbrev pub live : List Set → ℕ → Bool
live sets slot = ltb 0 (get_or sets slot no_set).count

-- "The identifier of a set is slot + 4 x generation."
unfoldable pub identifier_of : List Set → ℕ → ℕ
identifier_of sets slot = slot + slots * (get_or sets slot no_set).generation

-- the slot in an identifier
unfoldable pub slot_of : ℤ → ℕ
slot_of (pos i) = i % slots
slot_of (negsuc i) = 0

-- does an identifier name a live set? "A negative identifier names no live set."
unfoldable pub names_set : List Set → ℤ → Bool
names_set sets (pos i) = live sets (i % slots) && eqb (get_or sets (i % slots) no_set).generation (i / slots)
names_set sets (negsuc i) = false

-- "process not 1 to 8"
unfoldable pub no_process : ℕ → Bool
no_process p = eqb p 0 || ltb processes p

-- "process asleep"
unfoldable pub asleep : ℕ → List Sleeper → Bool
asleep p [] = false
asleep p (s ∷ q) = eqb s.process p || asleep p q

-- "a semaphore number at or above the set's count"
unfoldable pub number_too_high : ℕ → List Operation → Bool
number_too_high count [] = false
number_too_high count (o ∷ os) = leb count o.number || number_too_high count os

-- "every operation with amount not zero needs" altering, "every zero one" reading: does the caller have what all of them need?
unfoldable pub permitted : Bool → Bool → List Operation → Bool
permitted reads alters [] = true
permitted reads alters (o ∷ os) = cond (is_zero o.amount) reads alters && permitted reads alters os

-- the set that an identifier names
abbrev pub set_of : State → ℤ → Set
set_of s i = get_or s.sets (slot_of i) no_set

-- may the process do this with that set?
abbrev pub may : State → ℕ → ℤ → ℕ → Bool
may s p i asked = permits (caller_of s.callers p) (set_of s i) asked

-- "outside 1 to 8 is 3, then asleep is 16, before all other tests"
unfoldable pub check_caller : State → ℕ → ℕ
check_caller s p = check (no_process p) 3 (check (asleep p s.queue) 16 0)

-- "Setting needs alter and reading needs read, else 13"; this comes "after the test for a live set and before all else"
unfoldable pub check_access : State → ℕ → ℤ → ℕ → ℕ
check_access s p i asked =
    or_else (check_caller s p)
    (check (not (names_set s.sets i)) 22
    (check (not (may s p i asked)) 13 0))

-- the lowest free slot of n from one on
unfoldable pub free_from : List Set → ℕ → ℕ → ℕ
free_from sets slot zero = slot
free_from sets slot (suc n) = cond (live sets slot) (free_from sets (slot + 1) n) slot

-- the lowest free slot; 4 if there is none
abbrev pub free_slot : List Set → ℕ
free_slot sets = free_from sets 0 slots

-- create (process, count, bits): "count 0 or over 8: 22"; "over 511 is 22, tested with the count"; "no free slot: 28"
unfoldable pub check_create : State → ℕ → ℕ → ℕ → ℕ
check_create s p count mode =
    or_else (check_caller s p)
    (check ((eqb count 0 || ltb semaphores count) || ltb mode_max mode) 22
    (check (eqb (free_slot s.sets) slots) 28 0))

unfoldable pub check_operate : State → ℕ → ℤ → List ℕ → ℕ
check_operate s p i bytes =
    or_else (check_caller s p)
    (check (eqb (length bytes) 0 || not (eqb (length bytes % operation_bytes) 0)) 22
    (check (ltb (operation_bytes * operations) (length bytes)) 7
    (check (not (names_set s.sets i)) 22
    (check (number_too_high (set_of s i).count (operations_of bytes)) 27
    (check (not (permitted (may s p i reading) (may s p i altering) (operations_of bytes))) 13 0)))))

-- query: "number too high: 22"
unfoldable pub check_query : State → ℕ → ℤ → ℕ → ℕ
check_query s p i n =
    or_else (check_access s p i reading)
    (check (leb (set_of s i).count n) 22 0)

-- is a value 0 to 32,767?
unfoldable pub in_range : ℤ → Bool
in_range (pos v) = leb v value_max
in_range (negsuc v) = false

-- set value: "number too high: 22; value not 0 to 32,767: 34"
unfoldable pub check_set_value : State → ℕ → ℤ → ℕ → ℤ → ℕ
check_set_value s p i n v =
    or_else (check_access s p i altering)
    (check (leb (set_of s i).count n) 22
    (check (not (in_range v)) 34 0))

-- is every value?
unfoldable pub all_in_range : List ℤ → Bool
all_in_range [] = true
all_in_range (v ∷ vs) = in_range v && all_in_range vs

-- set all: "22 if the number of values isn't the set's count" and "34 if any value is outside 0 to 32,767"; bytes that are no whole
-- values are no such number
unfoldable pub check_set_all : State → ℕ → ℤ → List ℕ → ℕ
check_set_all s p i bytes =
    or_else (check_access s p i altering)
    (check (not (eqb (length bytes) (value_bytes * (set_of s i).count))) 22
    (check (not (all_in_range (values_in bytes))) 34 0))

-- read all, and a whole set: no test of their own
abbrev pub check_read_all : State → ℕ → ℤ → ℕ
check_read_all s p i = check_access s p i reading

-- remove: "no live set: 22"; "Removing needs owner or user 0, else 1 (EPERM)"
unfoldable pub check_remove : State → ℕ → ℤ → ℕ
check_remove s p i =
    or_else (check_caller s p)
    (check (not (names_set s.sets i)) 22
    (check (not (owns (caller_of s.callers p) (set_of s i))) 1 0))

-- signal, exit
unfoldable pub check_process : ℕ → ℕ
check_process p = check (no_process p) 3 0

-- the clock: "A time below the last one told, or above 2^63-1, is refused with 22."
unfoldable pub check_clock : State → ℕ → ℕ
check_clock s now = check (ltb now s.time || ltb time_max now) 22 0
