mod Laws
use Rattle.std.proofs.Common.{◌≡◌, ◌<◌, nat_abs, sym, ap, ◌∙◌, arith, to_z-of_z, rules}
use Rattle.model.specs.Limits.{semaphores}
use Rattle.model.specs.Checks.{slot_of, check_set_value}
use Rattle.model.specs.Events.{do_set_value}
use Rattle.host.specs.Holding.{host_in, state_in}
use Rattle.judging.specs.Value.{value_of}
use Rattle.service_checks.proofs.FoundSets.{slot_within}
use Rattle.service_waking.specs.Lent.{treated}
use Rattle.service_waking.proofs.ByProcess.{shifted}
use Rattle.service.proofs.EventLaws.{held_seated, refused_after, begun, begun_ready}
use Rattle.service.proofs.events.set_value.set_value.Answers.Laws.{value_kept, set_number, set_lent, set_ready, set_after}
use Rattle.service.proofs.events.set_value.set_value.Goals as goal
use Rattle.service.proofs.events.set_value.set_value.Goals.{After-slot_of, After-value_of}

-- `service::events::set_value::set_value` meets its contract.

-- no check applies
none : (c : After-slot_of) → check_set_value (state_in (host_in c.args.host.now c.args.adjustments.now)) c.args.process c.args.identifier c.args.number c.args.value ≡ 0
none c = sym (rw (to_z-of_z c.ranges.identifier, to_z-of_z c.ranges.value) at (c.in_default.ensures c.args.adjustments.now))

slot : (c : After-slot_of) → c.slot_of.result ≡ slot_of c.args.identifier
slot c = rw (to_z-of_z c.ranges.identifier) at c.slot_of.ensures

slot_is : (c : After-slot_of) → c.slot_of.result < 4
slot_is c = rw (slot c) (slot_within c.args.identifier)

number_is : (c : After-slot_of) → c.args.number < semaphores
number_is c = set_number (host_in c.args.host.now c.args.adjustments.now) c.requires _ _ _ _ (none c)

-- the value as the conversion reads it is the number that was asked for
value : (c : After-value_of) → c.value_of.result ≡ nat_abs c.args.value
value c = c.value_of.ensures ∙ ap value_of (to_z-of_z c.ranges.value) ∙ value_kept (state_in (host_in c.args.host.now c.args.adjustments.now)) _ _ _ _ (sym (rw (to_z-of_z c.ranges.identifier, to_z-of_z c.ranges.value) at (c.in_default.ensures c.args.adjustments.now)))

pub check_set_value-requires : goal.check_set_value-requires
check_set_value-requires c = held_seated (host_in c.args.host.now c.args.adjustments.now) c.requires

pub returns-in-Err : goal.returns-in-Err
unfolding do_set_value
returns-in-Err c = refused_after (host_in c.args.host.now c.args.adjustments.now) c.requires c.in-Err.refusal _ (rw (to_z-of_z c.ranges.identifier, to_z-of_z c.ranges.value) at (c.in-Err.ensures c.args.adjustments.now)) c.clear.ensures c.refused.ensures

pub invariant_of-slot : goal.invariant_of-slot
invariant_of-slot c = record { there_is = slot_is (goal.at.invariant_of-slot c).After-slot_of }

pub assign-requires : goal.assign-requires
assign-requires c = number_is (goal.at.assign-requires c).After-slot_of

pub overflow_cast-touched : goal.overflow_cast-touched
overflow_cast-touched c = omega (arith, number_is (goal.at.overflow_cast-touched c).After-slot_of)

pub overflow_shl-touched : goal.overflow_shl-touched
overflow_shl-touched c = omega (arith, number_is (goal.at.overflow_shl-touched c).After-slot_of)

pub wake-requires : goal.wake-requires
wake-requires c =
    let at = goal.at.wake-requires c in
    let z = none at.After-slot_of in
    let lent = set_lent (host_in c.args.host.now c.args.adjustments.now) c.requires _ _ _ _ z (rw (slot at.After-slot_of, value at.After-value_of) at c.assign.ensures) c.clear.ensures in
    record {
      ready = begun_ready c.default.ensures lent (set_ready (host_in c.args.host.now c.args.adjustments.now) c.requires _ _ _ _ z);
      looks_le_looks_max = omega (arith, c.default.ensures.0);
    }

pub returns : goal.returns
returns c =
    let at = goal.at.returns c in
    let z = none at.After-slot_of in
    let lent = set_lent (host_in c.args.host.now c.args.adjustments.now) c.requires _ _ _ _ z (rw (slot at.After-slot_of, value at.After-value_of) at c.assign.ensures) c.clear.ensures in
    set_after (host_in c.args.host.now c.args.adjustments.now) c.requires _ _ _ _ z _ (slot at.After-slot_of) (shifted _ (number_is at.After-slot_of))
    (begun c.default.ensures lent (treated _ _ _) c.wake.ensures) c.told.ensures
