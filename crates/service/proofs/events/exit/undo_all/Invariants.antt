use Rattle.host.specs.Holding.{host_in}
use Rattle.service_table.proofs.ExitLaws.{Undoing}
use Rattle.service.proofs.events.exit.undo_all.Given as goal

-- `service::events::exit::undo_all` meets its contract: the slots before the loop's are done.
abbrev pub invariant-loop-slot : goal.invariant-loop-slot
invariant-loop-slot l = Undoing (host_in l.initial.host l.initial.adjustments) l.process.number l.slot (host_in l.host l.adjustments) l.mask-items
