use mathlib.Core.Path.{◌∙◌}
use Rattle.judging.proofs.Values.{negative_is}
use Rattle.judging.proofs.amount.is_negative.Goals as goal

-- The bits read back are the number.
pub returns : goal.returns
returns c = c.is_negative.ensures ∙ negative_is c.ranges.amount
