-- "The array is judged in order on a copy of the set's values and of the caller's adjustments for them" ("Judging an array").
use Rattle.std.specs.Prelude.{ℕ, zero, suc, ◌+◌, ◌-◌, Bool, true, false, cond, List, [], ◌∷◌, ltb, eqb, get_or, set, ℤ, pos, negsuc, ◌-ℤ◌, Option, Some, None, Ok, Err, Result}
use Rattle.std.specs.Int.Signed.{lt_z}
use Rattle.model.specs.declared.Operation.{Operation}
use Rattle.model.specs.declared.Outcome.{Outcome}
use Rattle.model.specs.declared.Outcome.TheVariants.{Done, Sleep, Again, Range}
use Rattle.model.specs.declared.Copies.{Copies}
use Rattle.model.specs.declared.Judged.{Judged}
use Rattle.model.specs.Limits.{value_max}
use Rattle.model.specs.Operation.{no_wait, with_undo}
use Rattle.model.specs.declared.Halt.{Halt}
use Rattle.model.specs.declared.Halt.TheVariants.{Over, Stop}

-- the operation that decided, by its position from 0; or that none did
abbrev pub Position : Type 0
Position = Option ℕ

-- "amount above 0: value + amount over 32,767 is 34; amount below 0: value smaller than the magnitude stops here; amount 0: a
-- value other than 0 stops here; the amount is added to the value". The magnitude of -32,768 is 32,768.
unfoldable pub next_value : ℕ → ℤ → Result ℕ Halt
next_value v (pos zero) = cond (eqb v 0) (Ok v) (Err Stop)
next_value v (pos (suc n)) = cond (ltb value_max (v + suc n)) (Err Over) (Ok (v + suc n))
next_value v (negsuc n) = cond (ltb v (suc n)) (Err Stop) (Ok (v - suc n))

-- the amount "is subtracted from the adjustment, and an adjustment out of range is 34"; the range is -32,767 to 32,767
unfoldable pub next_adjustment : ℤ → ℤ → Option ℤ
next_adjustment a amount =
    cond (lt_z (a -ℤ amount) (negsuc (value_max - 1))) None
    (cond (lt_z (pos value_max) (a -ℤ amount)) None
    (Some (a -ℤ amount)))

abbrev pub judged : Outcome → ℕ → Copies → Judged
judged outcome position copies = record { outcome = outcome; position = position; copies = copies }

-- the copies with the value, and with the adjustment, of a semaphore replaced
abbrev pub with_value : Copies → ℕ → ℕ → Copies
with_value c n v = record { values = set c.values n v; adjustments = c.adjustments }

abbrev pub with_adjustment : Copies → ℕ → ℤ → Copies
with_adjustment c n a = record { values = c.values; adjustments = set c.adjustments n a }

-- an operation that goes on to the value v, as its adjustment fares
abbrev pub undone : Copies → Operation → ℕ → ℕ → Option ℤ → Judged
undone c o i v None = judged Range i c
undone c o i v (Some a) = judged Done i (with_adjustment (with_value c o.number v) o.number a)

-- an operation, as its value fares: "A stop with IPC_NOWAIT on that same operation is 11; without it the outcome is sleep."
abbrev pub valued : Copies → Operation → ℕ → Result ℕ Halt → Judged
valued c o i (Err Over) = judged Range i c
valued c o i (Err Stop) = cond (no_wait o) (judged Again i c) (judged Sleep i c)
valued c o i (Ok v) =
    cond (with_undo o)
    (undone c o i v (next_adjustment (get_or c.adjustments o.number (pos 0)) o.amount))
    (judged Done i (with_value c o.number v))

-- one operation, the i-th, on the copies
unfoldable pub step : Copies → Operation → ℕ → Judged
step c o i = valued c o i (next_value (get_or c.values o.number 0) o.amount)

-- "The first operation that stops, or gives 34, decides": then the copy is dropped, and what the array began with stays
unfoldable pub go_on : Copies → ℕ → Outcome → Judged → Judged
go_on start i Done more = more
go_on start i Sleep more = judged Sleep i start
go_on start i Again more = judged Again i start
go_on start i Range more = judged Range i start

-- the operations from the i-th on, on what their predecessors leave
unfoldable pub judge_from : Copies → List Operation → Copies → ℕ → Judged
judge_from start [] c i = judged Done i c
judge_from start (o ∷ os) c i = go_on start i (step c o i).outcome (judge_from start os (step c o i).copies (i + 1))

abbrev pub judge : Copies → List Operation → Judged
judge start os = judge_from start os start 0

-- "The answer 0 is done and -1 is asleep"; 11 is EAGAIN and 34 is ERANGE
unfoldable pub code_of : Outcome → ℤ
code_of Done = pos 0
code_of Sleep = negsuc 0
code_of Again = pos 11
code_of Range = pos 34

-- "Judging is to name the position, from 0, of the operation that decided, whenever the outcome is 11, 34 or sleep"; "a completed
-- array" has none
unfoldable pub decided_at : Outcome → ℕ → Position
decided_at Done i = None
decided_at Sleep i = Some i
decided_at Again i = Some i
decided_at Range i = Some i

-- the operation that judging names
abbrev pub decider_of : Judged → Position
decider_of j = decided_at j.outcome j.position

-- "If the outcome is not sleep, the sleeper is finished"
unfoldable pub finishes : Outcome → Bool
finishes Done = true
finishes Sleep = false
finishes Again = true
finishes Range = true
