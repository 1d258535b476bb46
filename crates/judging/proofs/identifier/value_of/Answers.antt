use mathlib.Core.Path.{◌≡◌, ◌∙◌}
use mir.Facts.{to_z-of_z}
use Rattle.model.specs.Checks.{in_range}
use Rattle.judging.specs.Value.{value_of}
use Rattle.judging.proofs.Identifiers.{ranged}
use Rattle.judging.proofs.identifier.value_of.Goals as goal
use Rattle.judging.proofs.identifier.value_of.Goals.{After-in_range}

in_range_lem : (c : After-in_range) → in_range c.args.value ≡ c.in_range.result
in_range_lem c = let e = to_z-of_z c.ranges.value in cc c.in_range.ensures

pub overflow_cast-result : goal.overflow_cast-result
overflow_cast-result c = rw (to_z-of_z c.ranges.value) (ranged c.args.value (in_range_lem (goal.at.overflow_cast-result c).After-in_range ∙ c.if-in_range.true))

pub returns-then-in_range : goal.returns-then-in_range
unfolding value_of
returns-then-in_range c = rw (to_z-of_z c.ranges.value, in_range_lem (goal.at.returns-then-in_range c).After-in_range ∙ c.if-in_range.true)

pub returns-else-in_range : goal.returns-else-in_range
unfolding value_of
returns-else-in_range c = rw (in_range_lem (goal.at.returns-else-in_range c).After-in_range ∙ c.if-in_range.false)
