-- Waits that end by the clock: when a wait is over, and who is not due.
use Prim.Native.Nat.{ℕ, ◌+◌, ◌≤◌, ◌<◌}
use native.Mathlib.Omega.{arith}
use mathlib.Core.Path.{◌≡◌, refl}
use mathlib.Core.Bool.{true, false}
use borrow.Author.Tests.{le-leb, lt-leb, eqb-false}
use Rattle.model.specs.Clock.{over_by, at_once}
use Rattle.std.specs.Prelude.{Some, None}
use Rattle.model.specs.State.{Wait}

-- from start plus wait on, and not before
pub over_from : (start n now : ℕ) → start + n ≤ now → over_by now start (Some n) ≡ true
unfolding over_by
over_from start n now h = le-leb (start + n) now h

pub over_before : (start n now : ℕ) → now < start + n → over_by now start (Some n) ≡ false
unfolding over_by
over_before start n now h = lt-leb (start + n) now h

-- a call that begins now, and may wait
pub begun_now : (now : ℕ) (w : Wait) → at_once w ≡ false → over_by now now w ≡ false
unfolding over_by at_once
begun_now now None e = refl
begun_now now (Some n) e = over_before now n now (omega (arith, eqb-false))
