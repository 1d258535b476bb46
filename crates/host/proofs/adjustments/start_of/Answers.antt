use Rattle.std.proofs.Common.{arith}
use Rattle.host.proofs.SleeperLaws.{undo_begins, undo_nobody, undo_nowhere}
use Rattle.host.proofs.adjustments.start_of.Goals as goal
use Rattle.host.proofs.adjustments.start_of.Goals.{else-i-lt-PROCESSES-via-then-i-lt-PROCESSES+else-slot-lt-SETS, else-i-lt-PROCESSES-via-else-i-lt-PROCESSES}

pub returns-then-slot-lt-SETS : goal.returns-then-slot-lt-SETS
returns-then-slot-lt-SETS c =
    let a = c.args in
    let e = c.entry_of-i.ensures in
    (rw e (undo_begins a.process a.slot (rw e at c.if-i-lt-PROCESSES.true) c.if-slot-lt-SETS.true), omega arith)

pub returns-else-i-lt-PROCESSES : goal.returns-else-i-lt-PROCESSES
returns-else-i-lt-PROCESSES c =
    let a = c.args in
    let e = c.entry_of-i.ensures in
    elim c.else-i-lt-PROCESSES.branch [
      | else-i-lt-PROCESSES-via-then-i-lt-PROCESSES+else-slot-lt-SETS w ↦ undo_nowhere a.process a.slot w.if-slot-lt-SETS.false
      | else-i-lt-PROCESSES-via-else-i-lt-PROCESSES w ↦ undo_nobody a.process a.slot (rw e at w.if-i-lt-PROCESSES.false)
    ]
