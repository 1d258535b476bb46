use Rattle.std.proofs.Common.{◌≡◌, ℕ, ◌<◌, sym, refl, ap, arith, rules}
use Rattle.model.specs.declared.Set.{Set}
use Rattle.model.specs.Checks.{check_create, free_slot}
use Rattle.model.specs.Events.{do_create}
use Rattle.host.specs.Holding.{Host, Held, sets_in, host_in, state_in}
use Rattle.service.proofs.EventLaws.{held_seated, refused_after}
use Rattle.service.proofs.SlotLaws.{create_slot, created}
use Rattle.service.proofs.events.create.create.Goals as goal

-- `service::events::create::create` meets its contract.
-- the slot that was found is one of the four
small : (x : Host) → Held x → (p count mode : ℕ) → 0 ≡ check_create (state_in x) p count mode → {slot : ℕ} → slot ≡ free_slot (sets_in x.row) → slot < 4
small x k p count mode z e = rw e (create_slot x k p count mode (sym z))

pub check_create-requires : goal.check_create-requires
check_create-requires c = held_seated (host_in c.args.host.now c.args.adjustments.now) c.requires

pub returns-in-Err : goal.returns-in-Err
unfolding do_create
returns-in-Err c = refused_after (host_in c.args.host.now c.args.adjustments.now) c.requires c.in-Err.refusal _ (c.in-Err.ensures.code_value c.args.adjustments.now) c.clear.ensures c.refused.ensures

pub invariant_of-clear_slot : goal.invariant_of-clear_slot
invariant_of-clear_slot c = record { there_is = small (host_in c.args.host.now c.args.adjustments.now) c.requires _ _ _ (c.in-Ok.ensures.code_value c.args.adjustments.now) c.in-Ok.ensures.slot_value }

pub overflow_cast-slot : goal.overflow_cast-slot
overflow_cast-slot c = omega (arith, small (host_in c.args.host.now c.args.adjustments.now) c.requires _ _ _ (c.in-Ok.ensures.code_value c.args.adjustments.now) c.in-Ok.ensures.slot_value)

pub overflow_add-slot : goal.overflow_add-slot
overflow_add-slot c =
    let g : c.set_at-old.result.generation < 65536 = search rules in
    omega (arith, small (host_in c.args.host.now c.args.adjustments.now) c.requires _ _ _ (c.in-Ok.ensures.code_value c.args.adjustments.now) c.in-Ok.ensures.slot_value, g)

pub returns : goal.returns
returns c =
    created (host_in c.args.host.now c.args.adjustments.now) c.requires _ _ _ (sym (c.in-Ok.ensures.code_value c.args.adjustments.now)) c.in-Ok.ensures.slot_value
    (ap (λ (u : Set). u.generation) c.set_at-old.ensures) c.caller_of-caller.ensures c.put_set.ensures c.clear_slot.ensures c.clear.ensures refl c.done.ensures
