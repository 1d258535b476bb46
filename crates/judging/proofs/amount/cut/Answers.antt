use borrow.Author.Rules.{rules}
use mathlib.Core.Path.{ap, ◌∙◌}
use lib.IntN.{pos, nat_abs, ◌+ℤ◌}
use mir.Syntax.{w32}
use mir.Val.{SFits}
use mir.Facts.{to_z-of_z}
use Rattle.model.specs.Events.{cut}
use Rattle.judging.proofs.Signed.{sum_is, clamped}
use Rattle.judging.proofs.amount.cut.Goals as goal

pub returns : goal.returns
unfolding cut
returns c =
    let fits : SFits w32 c.clamp.result = search rules in
    ap nat_abs (to_z-of_z fits) ∙ rw (sum_is c.ranges.value c.ranges.adjustment) at (ap nat_abs c.clamp.ensures.value)
    ∙ clamped (pos c.args.value +ℤ c.args.adjustment)
