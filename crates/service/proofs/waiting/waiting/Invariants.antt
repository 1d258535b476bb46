use Rattle.std.proofs.Common.{◌-◌}
use Rattle.model.specs.Limits.{processes}
use Rattle.host.specs.Holding.{host_in}
use Rattle.service.proofs.WaitingLaws.{Walked}
use Rattle.service.proofs.waiting.waiting.Given as goal

-- `service::waiting::waiting` meets its contract. The loop's invariant is `Walked`.
abbrev pub invariant-loop-n : goal.invariant-loop-n
invariant-loop-n l = Walked (host_in l.host l.adjustments) l.fn.slot.index l.increase l.zero l.judged l.n

abbrev pub decreases-loop-n : goal.decreases-loop-n
decreases-loop-n l = processes - l.n
