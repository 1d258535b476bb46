use Rattle.std.proofs.Common.{◌≡◌, ◌≤◌, length}
use lib.Seq.{paste}
use Rattle.host.proofs.adjustments.put_adjustments.Given as goal

-- `host::adjustments::put_adjustments` meets its contract. The loop's invariant: the first j of the new ones stand there.
abbrev pub invariant-loop-j : goal.invariant-loop-j
invariant-loop-j l = (l.j ≤ length l.adjustment-items) × (l.adjustments ≡ paste l.initial.adjustments l.start l.adjustment-items l.j)
