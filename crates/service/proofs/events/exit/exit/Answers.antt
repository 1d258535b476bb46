mod Laws
use Rattle.std.proofs.Common.{◌≡◌, length, sym, ap, ◌∙◌, subst, rules}
use Rattle.model.specs.Checks.{check_process}
use Rattle.model.specs.Events.{do_exit}
use Rattle.model.specs.Invariant.{Good}
use Rattle.host.specs.Parts.{Row}
use Rattle.host.specs.Holding.{Host, host_in, table_in}
use Rattle.service_waking.specs.Lent.{Lent, Ready, treated_from}
use Rattle.service.proofs.EventLaws.{held_invariant, held_seated, refused_after}
use Rattle.service.proofs.events.exit.exit.Answers.Laws.{exit_process, exit_lent, exit_touched, exit_ready, exit_after, touched_size}
use Rattle.service.proofs.events.exit.exit.Goals as goal

pub returns-in-Err : goal.returns-in-Err
unfolding do_exit
returns-in-Err c = refused_after (host_in c.args.host.now c.args.adjustments.now) c.requires c.in-Err.refusal _ (c.in-Err.ensures) c.clear.ensures c.refused.ensures

pub leave-requires : goal.leave-requires
leave-requires c = held_seated (host_in c.args.host.now c.args.adjustments.now) c.requires

pub invariant_of-undo_all : goal.invariant_of-undo_all
invariant_of-undo_all c = record { there_is = exit_process _ (sym c.in_default.ensures) }

pub undo_all-touched-requires : goal.undo_all-touched-requires
undo_all-touched-requires c =
    subst (λ (r : Row). Good (table_in (record { row = r; adjustments = c.args.adjustments.now }))) (sym c.leave.ensures.host_after)
    (held_invariant (host_in c.args.host.now c.args.adjustments.now) c.requires).good

pub wake_all-requires : goal.wake_all-requires
wake_all-requires c =
    let x = host_in c.args.host.now c.args.adjustments.now in
    let z = sym c.in_default.ensures in
    let gone = c.leave.ensures.host_after in
    let undone = c.undo_all-touched.ensures in
    let lent = exit_lent x c.requires _ z gone undone.adjustments_after c.clear.ensures in
    record {
      ready = subst Ready (sym lent) (exit_ready x c.requires _ z);
      touched_len = ap length (exit_touched x c.requires _ z gone undone.value) ∙ touched_size _ _;
    }

pub returns : goal.returns
returns c =
    let x = host_in c.args.host.now c.args.adjustments.now in
    let z = sym c.in_default.ensures in
    let gone = c.leave.ensures.host_after in
    let undone = c.undo_all-touched.ensures in
    let lent = exit_lent x c.requires _ z gone undone.adjustments_after c.clear.ensures in
    exit_after x c.requires _ z c.args.engine (exit_touched x c.requires _ z gone undone.value)
    (c.wake_all.ensures ∙ ap (λ (l : Lent). treated_from c.args.engine 0 c.undo_all-touched.result l 0) lent) c.told.ensures
