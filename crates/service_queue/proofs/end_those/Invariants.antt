use Prim.Native.Nat.{◌+◌, ◌≤◌}
use mathlib.Core.Path.{◌≡◌}
use mathlib.Core.Bool.{Bool}
use lib.IntN.{pos}
use lib.ListN.{length}
use Rattle.model.specs.Limits.{processes}
use Rattle.model.specs.State.{Sleeper}
use Rattle.host.specs.Parts.{row_in}
use Rattle.host.specs.Holding.{queue_in}
use Rattle.host.specs.Queue.{QueueHeld}
use Rattle.wakings.specs.Wakings.{places_in}
use Rattle.service_queue.specs.Ended.{Tells}
use Rattle.service_queue.proofs.EndingLaws.{Ended}
use Rattle.service_queue.proofs.end_those.Given as goal

-- `service_queue::end_those` meets its contract: those before `at` stay, and the others wait to be asked.
abbrev pub invariant-loop : goal.invariant-loop
invariant-loop g l =
    QueueHeld (row_in l.host) × (l.counter + length (queue_in (row_in l.host)) ≡ l.end + l.at) × (l.woken + length (queue_in (row_in l.host)) ≤ processes)
    × ((test : Sleeper → Bool) → Tells g.F.Fn l.ended test → Ended (pos l.code) test (row_in l.initial.host) (row_in l.host) (places_in l.wakings) l.woken l.at)
