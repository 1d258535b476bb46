use mathlib.Core.Path.{sym, ◌∙◌}
use borrow.Author.Tests.{eq-eqb, ne_eqb}
use Rattle.judging.proofs.Values.{zero_is}
use Rattle.judging.proofs.checks.may.Goals as goal

-- No negative number has the bits of 0.
pub returns-then-amount-eq0 : goal.returns-then-amount-eq0
returns-then-amount-eq0 c = rw (sym (zero_is c.ranges.amount) ∙ eq-eqb _ _ c.if-amount-eq0.true)

pub returns-else-amount-eq0 : goal.returns-else-amount-eq0
returns-else-amount-eq0 c = rw (sym (zero_is c.ranges.amount) ∙ ne_eqb _ _ c.if-amount-eq0.false)
