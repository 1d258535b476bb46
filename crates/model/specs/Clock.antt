-- "Waits that end by the clock": times and waits in milliseconds.
use Rattle.std.specs.Prelude.{ℕ, ◌+◌, Bool, false, not, eqb, leb, Some, None}
use Rattle.model.specs.State.{Sleeper, Wait}

-- "start plus wait is at or below the new time": an exact sum. Without a wait there is no such time.
unfoldable pub over_by : ℕ → ℕ → Wait → Bool
over_by now start None = false
over_by now start (Some n) = leb (start + n) now

-- is the sleeper's wait over at this time, or not yet?
abbrev pub due : ℕ → Sleeper → Bool
due now s = over_by now s.start s.wait

abbrev pub not_due : ℕ → Sleeper → Bool
not_due now s = not (due now s)

-- "a wait of 0"
unfoldable pub at_once : Wait → Bool
at_once None = false
at_once (Some n) = eqb n 0
