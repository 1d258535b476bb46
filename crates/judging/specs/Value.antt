-- The values that set value and set all were given.
use Rattle.std.specs.Prelude.{ℕ, cond, List, [], ◌∷◌, ℤ, nat_abs}
use Rattle.model.specs.Checks.{in_range}

-- a value in range, as a semaphore holds it; 0 for any other
unfoldable pub value_of : ℤ → ℕ
value_of value = cond (in_range value) (nat_abs value) 0

unfoldable pub values_held : List ℤ → List ℕ
values_held [] = []
values_held (v ∷ vs) = value_of v ∷ values_held vs
