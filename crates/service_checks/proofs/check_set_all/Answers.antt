use Prim.Native.Nat.{◌*◌}
use mathlib.Core.Path.{◌≡◌, sym, ◌∙◌}
use mathlib.Core.List.{List}
use lib.IntN.{ℤ}
use lib.ListN.{length, get_or}
use mir.Facts.{to_z-of_z}
use borrow.Author.Tests.{eq-eqb, ne_eqb}
use Rattle.model.specs.Limits.{value_bytes}
use Rattle.model.specs.State.{no_set}
use Rattle.model.specs.Permission.{altering}
use Rattle.model.specs.Checks.{slot_of, check_access, check_set_all}
use Rattle.host.specs.Parts.{row_in}
use Rattle.host.specs.Holding.{sets_in, host_in, state_in}
use Rattle.service_checks.proofs.FoundSets.{passed_on, set_found}
use Rattle.service_checks.proofs.check_set_all.Goals as goal
use Rattle.service_checks.proofs.check_set_all.Goals.{After-set_at-set}

-- what the checks found
open_set : (c : After-set_at-set) (a : List ℤ) → check_access (state_in (host_in c.args.host.now a)) c.args.process c.args.identifier altering ≡ 0
open_set c a = sym (rw (to_z-of_z c.ranges.identifier) at (c.in_ok-check_access.ensures a))

-- the set that was read is the one that the identifier names
set_is : (c : After-set_at-set) → get_or (sets_in (row_in c.args.host.now)) (slot_of c.args.identifier) no_set ≡ c.set_at-set.result
set_is c = set_found c.ranges.identifier (row_in c.args.host.now) c.slot_of.ensures c.set_at-set.ensures

pub returns-in_err-check_access : goal.returns-in_err-check_access
unfolding check_set_all
returns-in_err-check_access c a = passed_on c.in_err-check_access.field-0.0 c.from_residual.result _ c.from_residual.ensures.1 (rw (to_z-of_z c.ranges.identifier) at (c.in_err-check_access.ensures a))

pub returns-then-bytes-set : goal.returns-then-bytes-set
unfolding check_set_all
returns-then-bytes-set c a =
    let s = (goal.at.returns-then-bytes-set c).After-set_at-set in
    rw (open_set s a, set_is s, ne_eqb (length c.args.bytes.now) (value_bytes * c.set_at-set.result.count) c.if-bytes-set.true)

pub returns-then-all_in_range : goal.returns-then-all_in_range
unfolding check_set_all
returns-then-all_in_range c a =
    let s = (goal.at.returns-then-all_in_range c).After-set_at-set in
    rw (open_set s a, set_is s, eq-eqb _ _ c.if-bytes-set.false, sym c.all_in_range.ensures ∙ c.if-all_in_range.true)

pub returns-else-all_in_range : goal.returns-else-all_in_range
unfolding check_set_all
returns-else-all_in_range c a =
    let s = (goal.at.returns-else-all_in_range c).After-set_at-set in
    rw (open_set s a, set_is s, eq-eqb _ _ c.if-bytes-set.false, sym c.all_in_range.ensures ∙ c.if-all_in_range.false)
