-- The limits ("What the host holds"). Each has its twin among the constants of src/lib.rt.
use Rattle.std.specs.Prelude.{ℕ, ◌*◌}

abbrev pub slots : ℕ
slots = 4

-- semaphores in a set
abbrev pub semaphores : ℕ
semaphores = 8

abbrev pub processes : ℕ
processes = 8

-- operations in one call
abbrev pub operations : ℕ
operations = 32

-- SEMVMX, and the bound of an undo adjustment either way
abbrev pub value_max : ℕ
value_max = 32767

-- nine permission bits, all on
abbrev pub mode_max : ℕ
mode_max = 511

-- the latest time that can be told: 2^63-1
abbrev pub time_max : ℕ
time_max = 9223372036854775807

-- an operation is six bytes
abbrev pub operation_bytes : ℕ
operation_bytes = 6

abbrev pub array_bytes : ℕ
array_bytes = operation_bytes * operations

-- a value of a setting is four bytes
abbrev pub value_bytes : ℕ
value_bytes = 4

-- the semaphores of all sets
abbrev pub all_semaphores : ℕ
all_semaphores = slots * semaphores

-- the adjustments of all processes
abbrev pub all_adjustments : ℕ
all_adjustments = processes * all_semaphores
