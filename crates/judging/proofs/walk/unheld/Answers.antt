use borrow.Author.Rules.{rules}
use mathlib.Core.Path.{sym, ◌∙◌}
use mir.Syntax.{w16}
use mir.Val.{SFits}
use mir.Facts.{to_z-of_z}
use Rattle.judging.proofs.Steps.{unheld_stops, unheld_goes}
use Rattle.judging.proofs.walk.unheld.Goals as goal

pub returns-then-is_negative : goal.returns-then-is_negative
returns-then-is_negative c i =
    let f : SFits w16 c.args.operation.amount = search rules in
    rw c.stopped.ensures (unheld_stops _ _ c.args.operation c.requires.values_too c.requires.adjustments_too i (sym (rw (to_z-of_z f) at c.is_negative.ensures) ∙ c.if-is_negative.true))

pub returns-else-is_negative : goal.returns-else-is_negative
returns-else-is_negative c i =
    let f : SFits w16 c.args.operation.amount = search rules in
    unheld_goes _ _ c.args.operation c.requires.values_too c.requires.adjustments_too i f (sym (rw (to_z-of_z f) at c.is_negative.ensures) ∙ c.if-is_negative.false)
