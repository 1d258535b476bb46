use Rattle.host.specs.Holding.{host_in}
use Rattle.replaying.specs.Replay.{stage_in}
use Rattle.replaying.proofs.Going.{Going}
use Rattle.replaying.proofs.piece.Given as goal

-- `replaying::piece` meets its contract. The loop's invariant: what the definition gives from here is what it gives from the
-- start.
abbrev pub invariant-loop-progress : goal.invariant-loop-progress
invariant-loop-progress l = Going l.engine l.file (stage_in (host_in l.initial.host l.initial.adjustments) l.initial.progress) l.initial.out (stage_in (host_in l.host l.adjustments) l.progress) l.out l.progress.written

abbrev pub decreases-loop-progress : goal.decreases-loop-progress
decreases-loop-progress l = l.progress.left
