use mathlib.Core.Path.{◌≡◌, sym, ◌∙◌}
use mathlib.Core.List.{List, []}
use lib.IntN.{ℤ}
use mir.Facts.{to_z-of_z}
use Rattle.model.specs.State.{caller_of}
use Rattle.model.specs.Permission.{owns}
use Rattle.model.specs.Checks.{names_set, set_of, check_caller, check_remove}
use Rattle.model.proofs.CheckLaws.{caller_passes}
use Rattle.host.specs.Parts.{row_in}
use Rattle.host.specs.Holding.{sets_in, host_in, state_in}
use Rattle.service_checks.proofs.FoundSets.{passed_on, names_found}
use Rattle.service_checks.proofs.check_remove.Goals as goal
use Rattle.service_checks.proofs.check_remove.Goals.{After-may_remove, After-names_set}

-- what the checks found
awake : (c : After-names_set) (a : List ℤ) → check_caller (state_in (host_in c.args.host.now a)) c.args.process ≡ 0
awake c a = sym (c.in_ok-check_caller.ensures a)

names : (c : After-names_set) → names_set (sets_in (row_in c.args.host.now)) c.args.identifier ≡ c.names_set.result
names c = names_found c.ranges.identifier _ c.names_set.ensures

owned : (c : After-may_remove) (a : List ℤ) → owns (caller_of (state_in (host_in c.args.host.now a)).callers c.args.process) (set_of (state_in (host_in c.args.host.now a)) c.args.identifier) ≡ c.may_remove.result
owned c a = sym (rw (to_z-of_z c.ranges.identifier) at (c.may_remove.ensures a))

pub returns-in_err-check_caller : goal.returns-in_err-check_caller
unfolding check_remove
returns-in_err-check_caller c a = passed_on c.in_err-check_caller.field-0.0 c.from_residual.result _ c.from_residual.ensures.1 (c.in_err-check_caller.ensures a)

pub returns-then-not-names_set : goal.returns-then-not-names_set
unfolding check_remove
returns-then-not-names_set c a =
    let n = (goal.at.returns-then-not-names_set c).After-names_set in
    rw (awake n a, names n ∙ c.if-not-names_set.true)

pub may_remove-requires : goal.may_remove-requires
may_remove-requires c = (caller_passes (state_in (host_in c.args.host.now [])) _ (awake (goal.at.may_remove-requires c).After-names_set [])).process

pub returns-then-may_remove : goal.returns-then-may_remove
unfolding check_remove
returns-then-may_remove c a =
    let n = (goal.at.returns-then-may_remove c).After-names_set in
    rw (awake n a, names n ∙ c.if-not-names_set.false, owned (goal.at.returns-then-may_remove c).After-may_remove a ∙ c.if-may_remove.true)

pub returns-else-may_remove : goal.returns-else-may_remove
unfolding check_remove
returns-else-may_remove c a =
    let n = (goal.at.returns-else-may_remove c).After-names_set in
    rw (awake n a, names n ∙ c.if-not-names_set.false, owned (goal.at.returns-else-may_remove c).After-may_remove a ∙ c.if-may_remove.false)
