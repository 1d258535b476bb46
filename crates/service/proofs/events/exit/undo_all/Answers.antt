use Rattle.std.proofs.Common.{refl}
use Rattle.service_table.proofs.ExitLaws.{undoing_first, undoing_more, undoing_host, undoing_masks}
use Rattle.service.proofs.events.exit.undo_all.Goals as goal

pub loop-slot-init : goal.loop-slot-init
loop-slot-init c = undoing_first _ c.requires _ _ refl

pub loop-slot-preserved : goal.loop-slot-preserved
loop-slot-preserved c = undoing_more _ c.requires _ c.args.process.there_is c.loop-slot.invariant _ _ c.loop-slot-test.true c.undo_slot.ensures.adjustments_after c.undo_slot.ensures.value

pub returns : goal.returns
returns c = record { adjustments_after = undoing_host _ c.requires _ c.args.process.there_is c.loop-slot.invariant c.loop-slot-test.false; value = undoing_masks _ c.requires _ c.args.process.there_is c.loop-slot.invariant c.loop-slot-test.false }
