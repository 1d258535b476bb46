use mathlib.Core.Path.{◌≡◌, sym, ◌∙◌}
use mathlib.Core.List.{List}
use lib.Dec.{leb}
use lib.IntN.{ℤ}
use mir.Facts.{to_z-of_z}
use Rattle.model.specs.Permission.{altering}
use Rattle.model.specs.Checks.{set_of, check_access, in_range, check_set_value}
use Rattle.host.specs.Holding.{host_in, state_in}
use Rattle.service_checks.proofs.FoundSets.{passed_on}
use Rattle.service_checks.proofs.check_set_value.Goals as goal
use Rattle.service_checks.proofs.check_set_value.Goals.{After-in_range, After-lacks}

-- what the checks found
open_set : (c : After-lacks) (a : List ℤ) → check_access (state_in (host_in c.args.host.now a)) c.args.process c.args.identifier altering ≡ 0
open_set c a = sym (rw (to_z-of_z c.ranges.identifier) at (c.in_ok-check_access.ensures a))

numbered : (c : After-lacks) (a : List ℤ) → leb (set_of (state_in (host_in c.args.host.now a)) c.args.identifier).count c.args.number ≡ c.lacks.result
numbered c a = sym (rw (to_z-of_z c.ranges.identifier) at (c.lacks.ensures a))

range : (c : After-in_range) → in_range c.args.value ≡ c.in_range.result
range c = sym (rw (to_z-of_z c.ranges.value) at c.in_range.ensures)

pub returns-in_err-check_access : goal.returns-in_err-check_access
unfolding check_set_value
returns-in_err-check_access c a = passed_on c.in_err-check_access.field-0.0 c.from_residual.result _ c.from_residual.ensures.1 (rw (to_z-of_z c.ranges.identifier) at (c.in_err-check_access.ensures a))

pub returns-then-lacks : goal.returns-then-lacks
unfolding check_set_value
returns-then-lacks c a =
    let l = (goal.at.returns-then-lacks c).After-lacks in
    rw (open_set l a, numbered l a ∙ c.if-lacks.true)

pub returns-then-in_range : goal.returns-then-in_range
unfolding check_set_value
returns-then-in_range c a =
    let l = (goal.at.returns-then-in_range c).After-lacks in
    rw (open_set l a, numbered l a ∙ c.if-lacks.false, range (goal.at.returns-then-in_range c).After-in_range ∙ c.if-in_range.true)

pub returns-else-in_range : goal.returns-else-in_range
unfolding check_set_value
returns-else-in_range c a =
    let l = (goal.at.returns-else-in_range c).After-lacks in
    rw (open_set l a, numbered l a ∙ c.if-lacks.false, range (goal.at.returns-else-in_range c).After-in_range ∙ c.if-in_range.false)
