use Rattle.service_waking.proofs.LentLaws.{ready_row}
use Rattle.service_waking.proofs.SetLoops.{wakes_plain, wakes_quick, wakes_nobody}
use Rattle.service_waking.proofs.wake.Goals as goal

pub returns-then-touched-eq0 : goal.returns-then-touched-eq0
returns-then-touched-eq0 c = wakes_nobody _ _ _ _ c.in-Quick.is c.requires.ready c.if-touched-eq0.true

pub mark_touched-marks-requires : goal.mark_touched-marks-requires
mark_touched-marks-requires c = ready_row _ c.requires.ready

pub returns-in-Plain : goal.returns-in-Plain
returns-in-Plain c = wakes_plain _ _ _ _ c.in-Plain.is c.wake_plain.ensures

pub returns-else-touched-eq0 : goal.returns-else-touched-eq0
returns-else-touched-eq0 c = wakes_quick _ _ _ _ c.in-Quick.is _ c.mark_touched-marks.ensures c.wake_quick.ensures
