use borrow.Author.Tests.{eq-eqb, ne_eqb}
use Rattle.model.specs.Permission.{owns}
use Rattle.judging.proofs.permission.owns.Goals as goal

-- User 0 first, then the owner.
pub returns-then-caller-eq0 : goal.returns-then-caller-eq0
unfolding owns
returns-then-caller-eq0 c = rw (eq-eqb _ _ c.if-caller-eq0.true)

pub returns-else-caller-eq0 : goal.returns-else-caller-eq0
unfolding owns
returns-else-caller-eq0 c = rw (ne_eqb _ _ c.if-caller-eq0.false)
