use Rattle.host.specs.Parts.{row_in}
use Rattle.service_waking.proofs.Marking.{Marking}
use Rattle.service_waking.proofs.mark_touched.Given as goal

abbrev pub invariant-loop-n : goal.invariant-loop-n
invariant-loop-n l = Marking (row_in l.host) l.fn.slot.index l.touched l.marks l.m l.n
