use mathlib.Core.Path.{◌≡◌, sym, ◌∙◌}
use mathlib.Core.List.{List, []}
use lib.IntN.{ℤ}
use mir.Facts.{to_z-of_z}
use Rattle.model.specs.Checks.{names_set, may, check_caller, check_access}
use Rattle.model.proofs.CheckLaws.{caller_passes}
use Rattle.host.specs.Parts.{row_in}
use Rattle.host.specs.Holding.{sets_in, host_in, state_in}
use Rattle.service_checks.proofs.FoundSets.{passed_on, names_found}
use Rattle.service_checks.proofs.check_access.Goals as goal
use Rattle.service_checks.proofs.check_access.Goals.{After-may, After-names_set}

-- what the checks found
awake : (c : After-names_set) (a : List ℤ) → check_caller (state_in (host_in c.args.host.now a)) c.args.process ≡ 0
awake c a = sym (c.in_ok-check_caller.ensures a)

names : (c : After-names_set) → names_set (sets_in (row_in c.args.host.now)) c.args.identifier ≡ c.names_set.result
names c = names_found c.ranges.identifier _ c.names_set.ensures

asked : (c : After-may) (a : List ℤ) → may (state_in (host_in c.args.host.now a)) c.args.process c.args.identifier c.args.asked ≡ c.may.result
asked c a = sym (rw (to_z-of_z c.ranges.identifier) at (c.may.ensures a))

pub returns-in_err-check_caller : goal.returns-in_err-check_caller
unfolding check_access
returns-in_err-check_caller c a = passed_on c.in_err-check_caller.field-0.0 c.from_residual.result _ c.from_residual.ensures.1 (c.in_err-check_caller.ensures a)

pub returns-then-not-names_set : goal.returns-then-not-names_set
unfolding check_access
returns-then-not-names_set c a =
    let n = (goal.at.returns-then-not-names_set c).After-names_set in
    rw (awake n a, names n ∙ c.if-not-names_set.true)

pub may-requires : goal.may-requires
may-requires c = (caller_passes (state_in (host_in c.args.host.now [])) _ (awake (goal.at.may-requires c).After-names_set [])).process

pub returns-then-may : goal.returns-then-may
unfolding check_access
returns-then-may c a =
    let n = (goal.at.returns-then-may c).After-names_set in
    rw (awake n a, names n ∙ c.if-not-names_set.false, asked (goal.at.returns-then-may c).After-may a ∙ c.if-may.true)

pub returns-else-may : goal.returns-else-may
unfolding check_access
returns-else-may c a =
    let n = (goal.at.returns-else-may c).After-names_set in
    rw (awake n a, names n ∙ c.if-not-names_set.false, asked (goal.at.returns-else-may c).After-may a ∙ c.if-may.false)
