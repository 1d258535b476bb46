-- A wait as a number of the row: 0 without one, and else one more than its milliseconds.
use Rattle.std.specs.Prelude.{ℕ, zero, suc, ◌+◌, Some, None}
use Rattle.model.specs.State.{Wait}

unfoldable pub wait_number : Wait → ℕ
wait_number None = 0
wait_number (Some n) = n + 1

unfoldable pub wait_of : ℕ → Wait
wait_of zero = None
wait_of (suc n) = Some n
