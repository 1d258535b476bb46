use Prim.Native.Nat.{◌%◌}
use mathlib.Core.Path.{◌≡◌, sym, ◌∙◌}
use mathlib.Core.Bool.{false, not, ◌||◌}
use mathlib.Core.List.{List, []}
use lib.Dec.{eqb, ltb}
use lib.IntN.{ℤ}
use lib.ListN.{length, get_or}
use mir.Facts.{to_z-of_z}
use borrow.Author.Tests.{lt-ltb, le-ltb}
use Rattle.model.specs.Limits.{operation_bytes, array_bytes}
use Rattle.model.specs.State.{no_set}
use Rattle.model.specs.Permission.{reading, altering}
use Rattle.model.specs.Checks.{slot_of, names_set, may, check_caller, check_operate}
use Rattle.model.proofs.CheckLaws.{caller_passes}
use Rattle.host.specs.Parts.{row_in}
use Rattle.host.specs.Holding.{sets_in, host_in, state_in}
use Rattle.service_checks.proofs.FoundSets.{passed_on, names_found, set_found}
use Rattle.service_checks.proofs.check_operate.Goals as goal
use Rattle.service_checks.proofs.check_operate.Goals.{After-may-alters, After-names_set, After-set_at-set, After-no_array, Else-bytes-gt-ARRAY_BYTES}

-- the caller is a process, and awake
awake : (c : After-no_array) (a : List ℤ) → check_caller (state_in (host_in c.args.host.now a)) c.args.process ≡ 0
awake c a = sym (c.in_ok-check_caller.ensures a)

-- .. with an array that is not too long
arrayed : (c : Else-bytes-gt-ARRAY_BYTES) →
    (eqb (length c.args.bytes.now) 0 || not (eqb (length c.args.bytes.now % operation_bytes) 0) ≡ false) × (ltb array_bytes (length c.args.bytes.now) ≡ false)
arrayed c = (sym c.no_array.ensures ∙ c.if-no_array.false, le-ltb array_bytes _ c.if-bytes-gt-ARRAY_BYTES.false)

names : (c : After-names_set) → names_set (sets_in (row_in c.args.host.now)) c.args.identifier ≡ c.names_set.result
names c = names_found c.ranges.identifier _ c.names_set.ensures

-- the set that was read is the one that the identifier names
set_is : (c : After-set_at-set) → get_or (sets_in (row_in c.args.host.now)) (slot_of c.args.identifier) no_set ≡ c.set_at-set.result
set_is c = set_found c.ranges.identifier (row_in c.args.host.now) c.slot_of.ensures c.set_at-set.ensures

-- what the caller may
reads : (c : After-may-alters) (a : List ℤ) → may (state_in (host_in c.args.host.now a)) c.args.process c.args.identifier reading ≡ c.may-reads.result
reads c a = sym (rw (to_z-of_z c.ranges.identifier) at (c.may-reads.ensures a))

alters : (c : After-may-alters) (a : List ℤ) → may (state_in (host_in c.args.host.now a)) c.args.process c.args.identifier altering ≡ c.may-alters.result
alters c a = sym (rw (to_z-of_z c.ranges.identifier) at (c.may-alters.ensures a))

pub returns-in_err-check_caller-clause-code_value : goal.returns-in_err-check_caller-clause-code_value
unfolding check_operate
returns-in_err-check_caller-clause-code_value c a = passed_on c.in_err-check_caller.field-0.0 c.from_residual.result _ c.from_residual.ensures.1 (c.in_err-check_caller.ensures a)

pub returns-then-no_array-clause-code_value : goal.returns-then-no_array-clause-code_value
unfolding check_operate
returns-then-no_array-clause-code_value c a = rw (awake (goal.at.returns-then-no_array-clause-code_value c).After-no_array a, sym c.no_array.ensures ∙ c.if-no_array.true)

pub returns-then-bytes-gt-ARRAY_BYTES-clause-code_value : goal.returns-then-bytes-gt-ARRAY_BYTES-clause-code_value
unfolding check_operate
returns-then-bytes-gt-ARRAY_BYTES-clause-code_value c a =
    rw (awake (goal.at.returns-then-bytes-gt-ARRAY_BYTES-clause-code_value c).After-no_array a, sym c.no_array.ensures ∙ c.if-no_array.false, lt-ltb array_bytes _ c.if-bytes-gt-ARRAY_BYTES.true)

pub returns-then-not-names_set-clause-code_value : goal.returns-then-not-names_set-clause-code_value
unfolding check_operate
returns-then-not-names_set-clause-code_value c a =
    let d = arrayed (goal.at.returns-then-not-names_set-clause-code_value c).Else-bytes-gt-ARRAY_BYTES in
    let n = (goal.at.returns-then-not-names_set-clause-code_value c).After-names_set in
    rw (awake (goal.at.returns-then-not-names_set-clause-code_value c).After-no_array a, d.0, d.1, names n ∙ c.if-not-names_set.true)

pub may-reads-requires : goal.may-reads-requires
may-reads-requires c = (caller_passes (state_in (host_in c.args.host.now [])) _ (awake (goal.at.may-reads-requires c).After-no_array [])).process

pub may-alters-requires : goal.may-alters-requires
may-alters-requires c = (caller_passes (state_in (host_in c.args.host.now [])) _ (awake (goal.at.may-alters-requires c).After-no_array [])).process

pub returns : goal.returns
unfolding check_operate
returns c =
    let d = arrayed (goal.at.returns c).Else-bytes-gt-ARRAY_BYTES in
    let m = (goal.at.returns c).After-may-alters in
    record {
      code_value = λ a.
          rw (awake (goal.at.returns c).After-no_array a, d.0, d.1, names (goal.at.returns c).After-names_set ∙ c.if-not-names_set.false, reads m a, alters m a, set_is (goal.at.returns c).After-set_at-set)
          c.check_array.ensures.code_value;
      names_value = c.check_array.ensures.names_value;
    }
