use Rattle.std.proofs.Common.{◌-◌}
use Rattle.model.specs.Limits.{semaphores}
use Rattle.model.specs.State.{row}
use Rattle.host.specs.Parts.{values}
use Rattle.host.proofs.SleeperLaws.{Writing}
use Rattle.host.proofs.semaphores.put_values.Given as goal

abbrev pub invariant-loop-j : goal.invariant-loop-j
invariant-loop-j l = Writing values l.initial.host (row l.slot) l.value-items l.host l.j

abbrev pub decreases-loop-j : goal.decreases-loop-j
decreases-loop-j l = semaphores - l.j
