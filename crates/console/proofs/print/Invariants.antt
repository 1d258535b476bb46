use mathlib.Core.Path.{◌≡◌}
use lib.ListN.{length}
use Rattle.host.specs.Holding.{host_in}
use Rattle.replaying.specs.Replay.{stage_in}
use Rattle.replaying.proofs.Whole.{Through}
use Rattle.console.proofs.print.Given as goal

-- `console::print` meets its contract. The loop's invariant: host and progress are behind some of the events, and the buffer is
-- as long as it was.
abbrev pub invariant-loop-progress : goal.invariant-loop-progress
invariant-loop-progress l = Through l.engine l.file (stage_in (host_in l.host l.adjustments) l.progress) × (65536 ≡ length l.out)

abbrev pub decreases-loop-progress : goal.decreases-loop-progress
decreases-loop-progress l = l.progress.left
