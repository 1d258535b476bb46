use borrow.Author.Tests.{eq-eqb, ne_eqb}
use Rattle.model.specs.Permission.{permits}
use Rattle.judging.proofs.permission.permits.Goals as goal

-- User 0 first, then the bit of the caller's class.
pub returns-then-caller-eq0 : goal.returns-then-caller-eq0
unfolding permits
returns-then-caller-eq0 c = rw (eq-eqb _ _ c.if-caller-eq0.true)

pub returns-else-caller-eq0 : goal.returns-else-caller-eq0
unfolding permits
returns-else-caller-eq0 c = rw (ne_eqb _ _ c.if-caller-eq0.false, ← c.class_bits.ensures)
