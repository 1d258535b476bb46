use Rattle.std.proofs.Common.{◌≡◌, ◌<◌, sym, refl, ◌∙◌, arith, to_z-of_z}
use Rattle.model.specs.Limits.{slots, semaphores}
use Rattle.model.specs.Checks.{slot_of, check_query}
use Rattle.host.specs.Holding.{host_in, state_in}
use Rattle.service.proofs.EventLaws.{held_seated}
use Rattle.service.proofs.QueryLaws.{query_refused, query_small, queried}
use Rattle.service.proofs.events.query.query.Goals as goal
use Rattle.service.proofs.events.query.query.Goals.{After-slot_of-slot}

-- the slot
slot_is : (c : After-slot_of-slot) → c.slot_of-slot.result ≡ slot_of c.args.identifier
slot_is c = rw (to_z-of_z c.ranges.identifier) at c.slot_of-slot.ensures

passes : (c : After-slot_of-slot) → check_query (state_in (host_in c.args.host.now c.args.adjustments.now)) c.args.process c.args.identifier c.args.number ≡ 0
passes c = sym (rw (to_z-of_z c.ranges.identifier) at (c.in_default.ensures c.args.adjustments.now))

small : (c : After-slot_of-slot) → (c.slot_of-slot.result < slots) × (c.args.number < semaphores)
small c = query_small (host_in c.args.host.now c.args.adjustments.now) c.requires c.args.process c.args.identifier c.args.number (passes c) (slot_is c)

pub check_query-requires : goal.check_query-requires
check_query-requires c = held_seated (host_in c.args.host.now c.args.adjustments.now) c.requires

pub returns-in-Err : goal.returns-in-Err
returns-in-Err c =
    c.refused.ensures
    ∙ query_refused (host_in c.args.host.now c.args.adjustments.now) c.requires c.args.process c.args.identifier c.args.number c.in-Err.refusal (rw (to_z-of_z c.ranges.identifier) at (c.in-Err.ensures c.args.adjustments.now))

pub overflow_mul-at : goal.overflow_mul-at
overflow_mul-at c = omega (arith, (small (goal.at.overflow_mul-at c).After-slot_of-slot).0)

pub overflow_add-at : goal.overflow_add-at
overflow_add-at c = omega (arith, (small (goal.at.overflow_add-at c).After-slot_of-slot).0)

pub invariant_of-waiting : goal.invariant_of-waiting
invariant_of-waiting c = record { there_is = (small (goal.at.invariant_of-waiting c).After-slot_of-slot).0 }

pub bounds-waiters-n : goal.bounds-waiters-n
bounds-waiters-n c = (small (goal.at.bounds-waiters-n c).After-slot_of-slot).1

pub bounds-waiters-n-2 : goal.bounds-waiters-n-2
bounds-waiters-n-2 c = (small (goal.at.bounds-waiters-n-2 c).After-slot_of-slot).1

pub returns : goal.returns
returns c =
    let o = (goal.at.returns c).After-slot_of-slot in
    queried (host_in c.args.host.now c.args.adjustments.now) c.requires c.args.process c.args.identifier c.args.number (passes o) (slot_is o)
    c.waiting-waiters.ensures refl refl c.value_at.ensures c.last_at.ensures
