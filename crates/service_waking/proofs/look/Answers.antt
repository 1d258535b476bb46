use lib.ListN.{get_or}
use Rattle.model.specs.State.{no_sleeper}
use Rattle.host.specs.Parts.{row_in}
use Rattle.host.specs.Holding.{host_in, table_in, queue_in}
use Rattle.service_waking.specs.Lent.{JudgedAs}
use Rattle.service_waking.proofs.LentLaws.{undone_as}
use Rattle.service_waking.proofs.SettleLaws.{looked}
use Rattle.service_waking.proofs.look.Goals as goal
use Rattle.service_waking.proofs.look.Goals.{After-judge-outcome}

-- how the array was judged
judged : (c : After-judge-outcome) → let a = c.args in JudgedAs (table_in (host_in a.host.now a.adjustments.now)) (get_or (queue_in (row_in a.host.now)) a.at no_sleeper) c.judge-outcome.result.outcome c.judge-outcome.result.position c.judge-outcome.new.copies
judged c =
    let a = c.args in
    looked (host_in a.host.now a.adjustments.now) a.at c.requires c.process_at-process.ensures c.slot_at-slot.ensures c.array_of.ensures c.values_of.ensures c.adjustments_of.ensures _ _ _ c.judge-outcome.ensures

pub returns-in-Done : goal.returns-in-Done
returns-in-Done c = judged (goal.at.returns-in-Done c).After-judge-outcome

pub returns-in_default : goal.returns-in_default
returns-in_default c = undone_as (judged (goal.at.returns-in_default c).After-judge-outcome) c.in_default.not-Done _
