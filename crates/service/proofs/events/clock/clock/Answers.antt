mod Laws
use Rattle.std.proofs.Common.{◌≡◌, sym}
use Rattle.model.specs.Checks.{check_clock}
use Rattle.model.specs.Events.{do_clock}
use Rattle.host.specs.Holding.{Host, host_in, state_in}
use Rattle.service.proofs.EventLaws.{refused_after}
use Rattle.service.proofs.events.clock.clock.Answers.Laws.{timed_row, expired_after}
use Rattle.service.proofs.events.clock.clock.Goals as goal
use Rattle.service.proofs.events.clock.clock.Goals.{After-put_time}

-- the check found nothing
none : (c : After-put_time) → check_clock (state_in (host_in c.args.host.now c.args.adjustments.now)) c.args.time ≡ 0
none c = sym (c.in_default.ensures c.args.adjustments.now)

pub returns-in-Err : goal.returns-in-Err
unfolding do_clock
returns-in-Err c = refused_after (host_in c.args.host.now c.args.adjustments.now) c.requires c.in-Err.refusal _ (c.in-Err.ensures c.args.adjustments.now) c.clear.ensures c.refused.ensures

pub end_all-woken-requires-clause-queue_held : goal.end_all-woken-requires-clause-queue_held
end_all-woken-requires-clause-queue_held c =
    timed_row (host_in c.args.host.now c.args.adjustments.now) c.requires _ (none (goal.at.end_all-woken-requires-clause-queue_held c).After-put_time) c.put_time.ensures

pub returns : goal.returns
returns c =
    let gone = c.end_all-woken.ensures in
    expired_after (host_in c.args.host.now c.args.adjustments.now) c.requires _ (none (goal.at.returns c).After-put_time) c.put_time.ensures
    gone.host_after gone.wakings_after gone.value c.told.ensures
