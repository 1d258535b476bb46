-- "A look judges a sleeper's array on the present state"; what an array that is done does to the table.
use Rattle.std.specs.Prelude.{ℕ, ◌+◌, List, [], ◌∷◌, set, ℤ}
use Rattle.std.proofs.Math.Seq.{slice, paste}
use Rattle.model.specs.declared.Operation.{Operation}
use Rattle.model.specs.declared.Outcome.{Outcome}
use Rattle.model.specs.declared.Outcome.TheVariants.{Done, Sleep, Again, Range}
use Rattle.model.specs.declared.Copies.{Copies}
use Rattle.model.specs.declared.Judged.{Judged}
use Rattle.model.specs.Limits.{semaphores}
use Rattle.model.specs.State.{Table, with_values, with_lasts, with_adjustments, Sleeper, row, undo_row}
use Rattle.model.specs.Operation.{operations_of}
use Rattle.model.specs.Judge.{judge}

-- the eight values of a set, and the eight adjustments of a process for them
unfoldable pub values_of : Table → ℕ → List ℕ
values_of t slot = slice (row slot) (row slot + semaphores) t.values

unfoldable pub adjustments_of : Table → ℕ → ℕ → List ℤ
adjustments_of t process slot = slice (undo_row process slot) (undo_row process slot + semaphores) t.adjustments

-- "a copy of the set's values and of the caller's adjustments for them"
abbrev pub copies_of : Table → Sleeper → Copies
copies_of t s = record { values = values_of t s.slot; adjustments = adjustments_of t s.process s.slot }

unfoldable pub look : Table → Sleeper → Judged
look t s = judge (copies_of t s) (operations_of s.array)

-- "a success sets the last process for every semaphore named in the array, zero amounts included"
unfoldable pub lasts_after : List ℕ → ℕ → ℕ → List Operation → List ℕ
lasts_after l slot process [] = l
lasts_after l slot process (o ∷ os) = lasts_after (set l (row slot + o.number) process) slot process os

-- "the copy becomes the state"
unfoldable pub applied : Table → Sleeper → Copies → Table
applied t s c =
    let values = paste t.values (row s.slot) c.values semaphores in
    let lasts = lasts_after t.lasts s.slot s.process (operations_of s.array) in
    let adjustments = paste t.adjustments (undo_row s.process s.slot) c.adjustments semaphores in
    with_adjustments (with_lasts (with_values t values) lasts) adjustments

-- the table after an array was judged: changed only if it is done
unfoldable pub after : Table → Sleeper → Outcome → Copies → Table
after t s Done c = applied t s c
after t s Sleep c = t
after t s Again c = t
after t s Range c = t
