-- A queue that fits the row, and a row whose parts hold the queue that they show.
use Rattle.std.specs.Prelude.{◌≡◌, ◌≤◌, List, length}
use Rattle.model.specs.Limits.{processes, array_bytes}
use Rattle.model.specs.State.{Sleeper}
use Rattle.model.specs.Runs.{All}
use Rattle.model.specs.Invariant.{Distinct}
use Rattle.host.specs.Parts.{Row}
use Rattle.host.specs.Holding.{with_queue, queue_in}

-- a sleeper that has an entry by process, and room for its array
pub record Room (s : Sleeper) : Type 0 where
  pub process : 1 ≤ s.process
  pub last : s.process ≤ processes
  pub short : length s.array ≤ array_bytes

pub record Queued (q : List Sleeper) : Type 0 where
  pub few : length q ≤ processes
  pub rooms : All Room q
  pub distinct : Distinct q

pub record QueueHeld (r : Row) : Type 0 where
  pub holds : r ≡ with_queue r (queue_in r)
  pub fits : Queued (queue_in r)
