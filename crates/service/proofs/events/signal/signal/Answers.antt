mod Laws
use Rattle.std.proofs.Common.{◌≡◌, sym, ◌∙◌, rules}
use borrow.Author.Tests.{not-true, not-false}
use Rattle.model.specs.Checks.{check_process}
use Rattle.model.specs.Events.{do_signal}
use Rattle.host.specs.Holding.{Host, host_in}
use Rattle.service.proofs.EventLaws.{held_seated, refused_after}
use Rattle.service.proofs.events.signal.signal.Answers.Laws.{signal_awake, signal_asleep}
use Rattle.service.proofs.events.signal.signal.Goals as goal

pub returns-in-Err : goal.returns-in-Err
unfolding do_signal
returns-in-Err c = refused_after (host_in c.args.host.now c.args.adjustments.now) c.requires c.in-Err.refusal _ (c.in-Err.ensures) c.clear.ensures c.refused.ensures

pub leave-requires : goal.leave-requires
leave-requires c = held_seated (host_in c.args.host.now c.args.adjustments.now) c.requires

pub returns-then-not-leave : goal.returns-then-not-leave
returns-then-not-leave c =
    let l = c.leave.ensures in
    signal_awake (host_in c.args.host.now c.args.adjustments.now) c.requires _ (sym c.in_default.ensures) (sym l.value ∙ c.if-not-leave.true) l.host_after c.clear.ensures c.done.ensures

pub returns : goal.returns
returns c =
    let l = c.leave.ensures in
    signal_asleep (host_in c.args.host.now c.args.adjustments.now) c.requires _ (sym c.in_default.ensures) (sym l.value ∙ c.if-not-leave.false) l.host_after c.clear.ensures c.note.ensures c.told.ensures
