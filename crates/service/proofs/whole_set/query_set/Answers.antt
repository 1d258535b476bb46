use Rattle.std.proofs.Common.{◌≡◌, ◌<◌, sym, ◌∙◌, to_z-of_z}
use Rattle.model.specs.Limits.{slots}
use Rattle.model.specs.Checks.{slot_of, check_read_all}
use Rattle.host.specs.Holding.{host_in, state_in}
use Rattle.service.proofs.EventLaws.{held_seated}
use Rattle.service.proofs.SetShown.{set_refused_lem, set_small, set_shown}
use Rattle.service.proofs.whole_set.query_set.Goals as goal
use Rattle.service.proofs.whole_set.query_set.Goals.{After-slot_of-slot}

-- the slot
slot_is : (c : After-slot_of-slot) → c.slot_of-slot.result ≡ slot_of c.args.identifier
slot_is c = rw (to_z-of_z c.ranges.identifier) at c.slot_of-slot.ensures

passes : (c : After-slot_of-slot) → check_read_all (state_in (host_in c.args.host.now c.args.adjustments.now)) c.args.process c.args.identifier ≡ 0
passes c = sym (rw (to_z-of_z c.ranges.identifier) at (c.in_default.ensures c.args.adjustments.now))

small : (c : After-slot_of-slot) → c.slot_of-slot.result < slots
small c = set_small (host_in c.args.host.now c.args.adjustments.now) c.args.process c.args.identifier (passes c) (slot_is c)

pub check_access-requires : goal.check_access-requires
check_access-requires c = held_seated (host_in c.args.host.now c.args.adjustments.now) c.requires

pub returns-in-Err : goal.returns-in-Err
returns-in-Err c =
    c.refused.ensures
    ∙ set_refused_lem (host_in c.args.host.now c.args.adjustments.now) c.args.process c.args.identifier c.in-Err.refusal (rw (to_z-of_z c.ranges.identifier) at (c.in-Err.ensures c.args.adjustments.now))

pub invariant_of-waiting : goal.invariant_of-waiting
invariant_of-waiting c = record { there_is = small (goal.at.invariant_of-waiting c).After-slot_of-slot }

pub returns : goal.returns
returns c =
    let o = (goal.at.returns c).After-slot_of-slot in
    set_shown (host_in c.args.host.now c.args.adjustments.now) c.args.process c.args.identifier c.requires (passes o) (slot_is o)
    c.set_at-set.ensures c.waiting-waiters.ensures c.values_of.ensures c.lasts_of.ensures c.ones_of.ensures c.ones_of-2.ensures
