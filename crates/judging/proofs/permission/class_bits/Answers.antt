use borrow.Author.Tests.{eq-eqb, ne_eqb}
use Rattle.model.specs.Permission.{class_bits}
use Rattle.judging.proofs.permission.class_bits.Goals as goal

-- By the class that fits first.
pub returns-then-caller-set : goal.returns-then-caller-set
unfolding class_bits
returns-then-caller-set c = rw (eq-eqb _ _ c.if-caller-set.true)

pub returns-then-caller-set-2 : goal.returns-then-caller-set-2
unfolding class_bits
returns-then-caller-set-2 c = rw (ne_eqb _ _ c.if-caller-set.false, eq-eqb _ _ c.if-caller-set-2.true)

pub returns-else-caller-set-2 : goal.returns-else-caller-set-2
unfolding class_bits
returns-else-caller-set-2 c = rw (ne_eqb _ _ c.if-caller-set.false, ne_eqb _ _ c.if-caller-set-2.false)
