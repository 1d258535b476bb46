use mathlib.Core.Path.{◌≡◌, sym, ◌∙◌}
use mathlib.Core.List.{List}
use lib.Dec.{leb}
use lib.IntN.{ℤ}
use mir.Facts.{to_z-of_z}
use Rattle.model.specs.Permission.{reading}
use Rattle.model.specs.Checks.{set_of, check_access, check_query}
use Rattle.host.specs.Holding.{host_in, state_in}
use Rattle.service_checks.proofs.FoundSets.{passed_on}
use Rattle.service_checks.proofs.check_query.Goals as goal
use Rattle.service_checks.proofs.check_query.Goals.{After-lacks}

-- `service_checks::check_query` meets its contract.
-- what the checks found
open_set : (c : After-lacks) (a : List ℤ) → check_access (state_in (host_in c.args.host.now a)) c.args.process c.args.identifier reading ≡ 0
open_set c a = sym (rw (to_z-of_z c.ranges.identifier) at (c.in_ok-check_access.ensures a))

numbered : (c : After-lacks) (a : List ℤ) → leb (set_of (state_in (host_in c.args.host.now a)) c.args.identifier).count c.args.number ≡ c.lacks.result
numbered c a = sym (rw (to_z-of_z c.ranges.identifier) at (c.lacks.ensures a))

pub returns-in_err-check_access : goal.returns-in_err-check_access
unfolding check_query
returns-in_err-check_access c a = passed_on c.in_err-check_access.field-0.0 c.from_residual.result _ c.from_residual.ensures.1 (rw (to_z-of_z c.ranges.identifier) at (c.in_err-check_access.ensures a))

pub returns-then-lacks : goal.returns-then-lacks
unfolding check_query
returns-then-lacks c a =
    let l = (goal.at.returns-then-lacks c).After-lacks in
    rw (open_set l a, numbered l a ∙ c.if-lacks.true)

pub returns-else-lacks : goal.returns-else-lacks
unfolding check_query
returns-else-lacks c a =
    let l = (goal.at.returns-else-lacks c).After-lacks in
    rw (open_set l a, numbered l a ∙ c.if-lacks.false)
