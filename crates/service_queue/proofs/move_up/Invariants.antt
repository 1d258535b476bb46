use Rattle.host.specs.Parts.{row_in}
use Rattle.service_queue.proofs.MovingLaws.{Moving}
use Rattle.service_queue.proofs.move_up.Given as goal

-- `service_queue::move_up` meets its contract. The loop's invariant: those behind `at` have moved up as far as i.
abbrev pub invariant-loop-i : goal.invariant-loop-i
invariant-loop-i l = Moving (row_in l.initial.host) l.at l.last (row_in l.host) l.i
