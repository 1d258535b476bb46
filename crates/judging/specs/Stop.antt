-- Where the operations of an array stop, by the values alone. It is where judging stops, if judging would sleep
-- (proofs/StopLaws.antt).
use Rattle.std.specs.Prelude.{ℕ, ◌%◌, Bool, true, cond, ◌&&◌, List, [], ◌∷◌, get_or, set, ℤ, pos, ◌+ℤ◌, ◌-ℤ◌, Option, None, Some}
use Rattle.model.specs.declared.Operation.{Operation}
use Rattle.model.specs.Limits.{semaphores}
use Rattle.model.specs.Operation.{is_zero}
use Rattle.model.specs.Checks.{in_range}
use Rattle.model.specs.Counts.{no_operation}
use Rattle.judging.specs.declared.stop.Stop.{Stop}
use Rattle.judging.specs.Value.{value_of}

-- where an amount leads from a value: below 0 if the value is smaller than the magnitude of an amount below 0, and, at an
-- amount of 0, if it is any but 0
abbrev pub moved_to : ℕ → ℤ → ℤ
moved_to v amount = cond (is_zero amount) (pos 0 -ℤ pos v) (pos v +ℤ amount)

-- an operation, and the values as those before it leave them
pub record Stopped : Type 0 where
  pub operation : Operation
  pub values : List ℕ

abbrev pub stopped_at : Operation → List ℕ → Stopped
stopped_at o vs = record { operation = o; values = vs }

-- the first operation whose amount leads out of 0 to 32,767; its number is taken within a set
unfoldable pub stop_from : List Operation → List ℕ → Stopped
stop_from [] vs = stopped_at no_operation vs
stop_from (o ∷ os) vs =
    let n = o.number % semaphores in
    let new = moved_to (get_or vs n 0) o.amount in
    cond (in_range new) (stop_from os (set vs n (value_of new))) (stopped_at o vs)

-- do all of them go through?
unfoldable pub goes_through : List Operation → List ℕ → Bool
goes_through [] vs = true
goes_through (o ∷ os) vs =
    let n = o.number % semaphores in
    let new = moved_to (get_or vs n 0) o.amount in
    in_range new && goes_through os (set vs n (value_of new))

-- what is told of the operation that stops; of none the number and the amount of `no_operation`
abbrev pub number_of : Option Stop → ℕ
number_of None = 0
number_of (Some stop) = stop.number

abbrev pub amount_of : Option Stop → ℤ
amount_of None = pos 0
amount_of (Some stop) = stop.amount
