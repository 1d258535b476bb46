use mathlib.Core.Path.{sym}
use Rattle.service_queue.proofs.PositionLaws.{somebody_is, left_asleep, left_awake}
use Rattle.service_queue.proofs.leave.Goals as goal

pub returns-in-Some-clause-value : goal.returns-in-Some-clause-value
returns-in-Some-clause-value c = sym (somebody_is _ _ _ c.in-Some.ensures)

pub returns-in-Some-clause-host_after : goal.returns-in-Some-clause-host_after
returns-in-Some-clause-host_after c = left_asleep _ c.requires.holding c.in-Some.ensures c.take_out.ensures

pub returns-in-None-clause-host_after : goal.returns-in-None-clause-host_after
returns-in-None-clause-host_after c = left_awake _ c.requires.holding c.in-None.ensures

pub returns-then-not-is_asleep-clause-host_after : goal.returns-then-not-is_asleep-clause-host_after
returns-then-not-is_asleep-clause-host_after c = left_awake _ c.requires.holding (sym c.if-not-is_asleep.ensures)
