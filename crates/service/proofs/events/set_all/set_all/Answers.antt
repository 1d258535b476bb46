mod Laws
use Rattle.std.proofs.Common.{◌≡◌, ◌<◌, get_or, sym, ◌∙◌, arith, to_z-of_z, rules}
use Rattle.model.specs.State.{no_set}
use Rattle.model.specs.Checks.{slot_of, check_set_all}
use Rattle.model.specs.Events.{do_set_all}
use Rattle.host.specs.Parts.{row_in}
use Rattle.host.specs.Holding.{sets_in, host_in, state_in}
use Rattle.service_checks.proofs.FoundSets.{slot_within, set_found}
use Rattle.service_waking.specs.Lent.{treated}
use Rattle.service.proofs.EventLaws.{held_seated, refused_after, begun, begun_ready}
use Rattle.service.proofs.events.set_all.set_all.Answers.Laws.{all_few, all_lent, all_ready, all_after}
use Rattle.service.proofs.events.set_all.set_all.Goals as goal
use Rattle.service.proofs.events.set_all.set_all.Goals.{After-set_at-set, After-slot_of}

-- `service::events::set_all::set_all` meets its contract.

-- no check applies
none : (c : After-slot_of) → check_set_all (state_in (host_in c.args.host.now c.args.adjustments.now)) c.args.process c.args.identifier c.args.values.now ≡ 0
none c = sym (rw (to_z-of_z c.ranges.identifier) at (c.in_default.ensures c.args.adjustments.now))

slot : (c : After-slot_of) → c.slot_of.result ≡ slot_of c.args.identifier
slot c = rw (to_z-of_z c.ranges.identifier) at c.slot_of.ensures

slot_is : (c : After-slot_of) → c.slot_of.result < 4
slot_is c = rw (slot c) (slot_within c.args.identifier)

set_is : (c : After-set_at-set) → c.set_at-set.result ≡ get_or (sets_in (host_in c.args.host.now c.args.adjustments.now).row) (slot_of c.args.identifier) no_set
set_is c = sym (set_found c.ranges.identifier (row_in c.args.host.now) c.slot_of.ensures c.set_at-set.ensures)

pub check_set_all-requires : goal.check_set_all-requires
check_set_all-requires c = held_seated (host_in c.args.host.now c.args.adjustments.now) c.requires

pub returns-in-Err : goal.returns-in-Err
unfolding do_set_all
returns-in-Err c = refused_after (host_in c.args.host.now c.args.adjustments.now) c.requires c.in-Err.refusal _ (rw (to_z-of_z c.ranges.identifier) at (c.in-Err.ensures c.args.adjustments.now)) c.clear.ensures c.refused.ensures

pub invariant_of-slot : goal.invariant_of-slot
invariant_of-slot c = record { there_is = slot_is (goal.at.invariant_of-slot c).After-slot_of }

pub every_number-touched-requires : goal.every_number-touched-requires
every_number-touched-requires c =
    let at = goal.at.every_number-touched-requires c in
    all_few (host_in c.args.host.now c.args.adjustments.now) c.requires _ _ c.args.values.now (none at.After-slot_of) (set_is at.After-set_at-set)

pub wake-requires : goal.wake-requires
wake-requires c =
    let at = goal.at.wake-requires c in
    let z = none at.After-slot_of in
    let lent = all_lent (host_in c.args.host.now c.args.adjustments.now) c.requires _ _ c.args.values.now z (slot at.After-slot_of) c.assign_all.ensures c.clear.ensures in
    record {
      ready = begun_ready c.default.ensures lent (all_ready (host_in c.args.host.now c.args.adjustments.now) c.requires _ _ c.args.values.now z);
      looks_le_looks_max = omega (arith, c.default.ensures.0);
    }

pub returns : goal.returns
returns c =
    let at = goal.at.returns c in
    let z = none at.After-slot_of in
    let lent = all_lent (host_in c.args.host.now c.args.adjustments.now) c.requires _ _ c.args.values.now z (slot at.After-slot_of) c.assign_all.ensures c.clear.ensures in
    all_after (host_in c.args.host.now c.args.adjustments.now) c.requires _ _ c.args.values.now z _ (slot at.After-slot_of) (set_is at.After-set_at-set) c.every_number-touched.ensures
    (begun c.default.ensures lent (treated _ _ _) c.wake.ensures) c.told.ensures
