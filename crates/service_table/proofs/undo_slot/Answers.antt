use mathlib.Core.Path.{◌≡◌, sym, ◌∙◌}
use lib.ListN.{length}
use Rattle.model.specs.Limits.{all_adjustments}
use Rattle.service_table.proofs.UndoLaws.{undo_nothing, undo_some}
use borrow.Author.Rules.{rules}
use Rattle.service_table.proofs.undo_slot.Goals as goal

pub returns-then-all_zero : goal.returns-then-all_zero
returns-then-all_zero c =
    let l : length c.args.adjustments.now ≡ all_adjustments = search rules in
    let both =
    undo_nothing c.args.host.now c.args.adjustments.now c.args.process.number c.args.slot.index c.args.process.there_is c.args.slot.there_is l _ c.adjustments_of-undo.ensures c.requires
    (sym c.all_zero.ensures ∙ c.if-all_zero.true)
    in
    record { adjustments_after = both.0; value = both.1 }

pub returns : goal.returns
returns c =
    let l : length c.args.adjustments.now ≡ all_adjustments = search rules in
    let both =
    undo_some c.args.host.now c.args.adjustments.now c.args.process.number c.args.slot.index c.args.process.there_is c.args.slot.there_is l _ c.adjustments_of-undo.ensures
    _ _ c.values_of-before.ensures c.cut_all-after.ensures _ _ _ c.put_values.ensures c.put_adjustments.ensures c.differing_mask.ensures
    in
    record { adjustments_after = both.0; value = both.1 }
