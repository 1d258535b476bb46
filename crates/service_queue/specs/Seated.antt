-- A row whose parts hold the queue that they show, no array of it empty.
use Rattle.std.specs.Prelude.{◌≡◌, ℕ, suc, ◌-◌, ◌<◌, List, length, get_or, drop, set}
use Rattle.std.proofs.Math.Seq.{paste}
use Rattle.model.specs.State.{Sleeper, no_sleeper}
use Rattle.model.specs.Runs.{All}
use Rattle.host.specs.Parts.{Row}
use Rattle.host.specs.Holding.{queue_in}
use Rattle.host.specs.Queue.{QueueHeld}

pub record Seated (r : Row) : Type 0 where
  pub holding : QueueHeld r
  pub some : All (λ (s : Sleeper). 0 < length s.array) (queue_in r)

-- the sleeper of a process stands there
pub record IsPositionOf (p : ℕ) (q : List Sleeper) (at : ℕ) : Type 0 where
  pub inside : at < length q
  pub own : (get_or q at no_sleeper).process ≡ p

-- those behind a position each one further up, as far as the last, whose place is free
abbrev pub moved_up : List ℕ → ℕ → ℕ → List ℕ
moved_up l at last = set (paste l at (drop (suc at) l) (last - at)) last 0
