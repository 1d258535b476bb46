use Rattle.std.proofs.Common.{◌≡◌, ◌+◌, ◌%◌, sym, ap, to_z-of_z}
use Rattle.model.specs.declared.Set.{Set}
use Rattle.model.specs.Checks.{slot_of, check_remove}
use Rattle.model.specs.Events.{do_remove}
use Rattle.host.specs.Parts.{row_in}
use Rattle.host.specs.Holding.{host_in, state_in, set_at}
use Rattle.service_checks.proofs.FoundSets.{slot_within}
use Rattle.service.proofs.EventLaws.{held_seated, refused_after}
use Rattle.service.proofs.SlotLaws.{removed_row, removed}
use Rattle.service.proofs.events.remove.remove.Goals as goal
use Rattle.service.proofs.events.remove.remove.Goals.{After-slot_of-slot, After-set_at-old}

-- `service::events::remove::remove` meets its contract.
-- no check applies
none : (c : After-slot_of-slot) → check_remove (state_in (host_in c.args.host.now c.args.adjustments.now)) c.args.process c.args.identifier ≡ 0
none c = sym (rw (to_z-of_z c.ranges.identifier) at (c.in_default.ensures c.args.adjustments.now))

slot : (c : After-slot_of-slot) → c.slot_of-slot.result ≡ slot_of c.args.identifier
slot c = rw (to_z-of_z c.ranges.identifier) at c.slot_of-slot.ensures

generation : (c : After-set_at-old) → (c.set_at-old.result.generation + 1) % 65536 ≡ ((set_at (row_in c.args.host.now) c.slot_of-slot.result).generation + 1) % 65536
generation c = ap (λ (u : Set). (u.generation + 1) % 65536) c.set_at-old.ensures

pub check_remove-requires : goal.check_remove-requires
check_remove-requires c = held_seated (host_in c.args.host.now c.args.adjustments.now) c.requires

pub returns-in-Err : goal.returns-in-Err
unfolding do_remove
returns-in-Err c = refused_after (host_in c.args.host.now c.args.adjustments.now) c.requires c.in-Err.refusal _ (rw (to_z-of_z c.ranges.identifier) at (c.in-Err.ensures c.args.adjustments.now)) c.clear.ensures c.refused.ensures

pub invariant_of-clear_slot : goal.invariant_of-clear_slot
invariant_of-clear_slot c = record { there_is = rw (slot (goal.at.invariant_of-clear_slot c).After-slot_of-slot) (slot_within _) }

pub end_all-woken-requires-clause-queue_held : goal.end_all-woken-requires-clause-queue_held
end_all-woken-requires-clause-queue_held c =
    let at = goal.at.end_all-woken-requires-clause-queue_held c in
    removed_row (host_in c.args.host.now c.args.adjustments.now) c.requires _ _ (none at.After-slot_of-slot) (slot at.After-slot_of-slot) (generation at.After-set_at-old) c.put_set.ensures c.clear_slot.ensures

pub returns : goal.returns
returns c =
    let at = goal.at.returns c in
    let gone = c.end_all-woken.ensures in
    removed (host_in c.args.host.now c.args.adjustments.now) c.requires _ _ (none at.After-slot_of-slot) (slot at.After-slot_of-slot) (generation at.After-set_at-old) c.put_set.ensures c.clear_slot.ensures
    gone.host_after gone.wakings_after gone.value c.told.ensures
