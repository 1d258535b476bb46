-- What the parts of the service ask of a slot, a process, a number, an array of operations and values.
use Rattle.std.specs.Prelude.{ℕ, ◌≤◌, ◌<◌, List}
use Rattle.model.specs.Limits.{slots, semaphores, processes, value_max}
use Rattle.model.specs.declared.Operation.{Operation}
use Rattle.model.specs.Operation.{operations_of}
use Rattle.model.specs.Runs.{All}

-- slots are numbered 0 to 3
abbrev pub IsSlot : ℕ → Type 0
IsSlot slot = slot < slots

-- processes are numbered 1 to 8
pub record IsProcess (process : ℕ) : Type 0 where
  pub least : 1 ≤ process
  pub most : process ≤ processes

-- semaphores of a set are numbered 0 to 7
abbrev pub IsNumber : ℕ → Type 0
IsNumber number = number < semaphores

abbrev pub NamesOne : Operation → Type 0
NamesOne o = IsNumber o.number

-- every operation that the bytes hold names a semaphore that a set can have
abbrev pub Numbered : List ℕ → Type 0
Numbered bytes = All NamesOne (operations_of bytes)

-- values of semaphores are 0 to 32,767
abbrev pub AreValues : List ℕ → Type 0
AreValues vs = All (λ (v : ℕ). v ≤ value_max) vs
