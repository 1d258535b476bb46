-- Whom an event ends without a look, and with which code.
use Rattle.std.specs.Prelude.{◌≡◌, ℕ, Bool, not, List, length, ℤ, pos}
use Rattle.std.specs.Fn.{Shared, FnReturns}
use denote.Ref.{Bor}
use Rattle.model.specs.State.{Sleeper}
use Rattle.model.specs.Marks.{mine}
use Rattle.model.specs.Clock.{due}
use Rattle.model.specs.Events.{keep, ended_with}
use Rattle.host.specs.Parts.{Row, row_in}
use Rattle.host.specs.Holding.{with_queue, sleeper_in, queue_in}
use Rattle.wakings.specs.Wakings.{Place, list_of}
use Rattle.service_queue.specs.declared.Ending.{Ending}
use Rattle.service_queue.specs.declared.Ending.TheVariants.{Removal, Expiry}

-- "Remove ends the set's sleepers with 43"; "A sleeper whose start plus wait is at or below the new time ends with 11"
abbrev pub ended_by : Ending → Sleeper → Bool
ended_by (Removal slot) s = mine slot s
ended_by (Expiry time) s = due time s

abbrev pub code_by : Ending → ℤ
code_by (Removal slot) = pos 43
code_by (Expiry time) = pos 11

-- all others
abbrev pub spared_by : Ending → Sleeper → Bool
spared_by ending s = not (ended_by ending s)

-- a closure tells whether a test holds of the sleeper that a process has in a row
abbrev pub Tells : {F : Type 0} → Shared F (Bor (List ℕ) × (ℕ × Unit {0})) Bool → F → (Sleeper → Bool) → Type 0
Tells calls ended test = (host : Bor (List ℕ)) (process : ℕ) (told : Bool) → FnReturns calls ended (host, (process, tt)) told → told ≡ test (sleeper_in (row_in host.now) process)

-- the sleepers for whom a test holds have left the queue, and are listed with a code, oldest first
pub record EndedAll (test : Sleeper → Bool) (code : ℤ) (r r' : Row) (wakings : List Place) (woken : ℕ) : Type 0 where
  pub host_after : r' ≡ with_queue r (keep (λ (s : Sleeper). not (test s)) (queue_in r))
  pub wakings_after : wakings ≡ list_of (ended_with code test (queue_in r))
  pub value : woken ≡ length (ended_with code test (queue_in r))
