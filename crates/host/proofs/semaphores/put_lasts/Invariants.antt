use Rattle.std.proofs.Common.{◌-◌}
use Rattle.model.specs.Limits.{semaphores}
use Rattle.model.specs.State.{row}
use Rattle.host.specs.Parts.{lasts}
use Rattle.host.proofs.SemaphoreLaws.{Masking}
use Rattle.host.proofs.semaphores.put_lasts.Given as goal

abbrev pub invariant-loop-j : goal.invariant-loop-j
invariant-loop-j l = Masking lasts semaphores (row l.slot) l.mask l.process l.initial.host l.host l.j

abbrev pub decreases-loop-j : goal.decreases-loop-j
decreases-loop-j l = semaphores - l.j
