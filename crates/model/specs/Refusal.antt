-- The code of a refusal, and of what the checks answer.
use Rattle.std.specs.Prelude.{ℕ, Result, Ok, Err}
use Rattle.model.specs.declared.Refusal.{Refusal}
use Rattle.model.specs.declared.Refusal.TheVariants.{NotOwner, NoProcess, TooLong, NotPermitted, Asleep, Invalid, NumberTooHigh, NoSlot, OutOfRange}

-- the number of the error in <errno.h>, as in "else 1 (EPERM)"
abbrev pub errno_of : Refusal → ℕ
errno_of NotOwner = 1
errno_of NoProcess = 3
errno_of TooLong = 7
errno_of NotPermitted = 13
errno_of Asleep = 16
errno_of Invalid = 22
errno_of NumberTooHigh = 27
errno_of NoSlot = 28
errno_of OutOfRange = 34

-- "first that applies decides": its code; 0 if it is not refused
abbrev pub code_in : {A : Type 0} → Result A Refusal → ℕ
code_in (Ok x) = 0
code_in (Err refusal) = errno_of refusal
