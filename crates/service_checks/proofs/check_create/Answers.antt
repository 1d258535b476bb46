use mathlib.Core.Path.{◌≡◌, sym, ◌∙◌}
use mathlib.Core.List.{List}
use lib.IntN.{ℤ}
use borrow.Author.Tests.{lt-ltb, le-ltb}
use Rattle.model.specs.Limits.{mode_max}
use Rattle.model.specs.Checks.{check_caller, check_create}
use Rattle.host.specs.Holding.{host_in, state_in}
use Rattle.service_checks.proofs.FoundSets.{passed_on, slot_code}
use Rattle.service_checks.proofs.check_create.Goals as goal
use Rattle.service_checks.proofs.check_create.Goals.{After-beyond, then-beyond-via-then-beyond, then-beyond-via-else-beyond+then-mode-gt-MODE_MAX}

-- the caller is a process, and awake
awake : (c : After-beyond) (a : List ℤ) → check_caller (state_in (host_in c.args.host.now a)) c.args.process ≡ 0
awake c a = sym (c.in_ok-check_caller.ensures a)

pub returns-in_err-check_caller-clause-code_value : goal.returns-in_err-check_caller-clause-code_value
unfolding check_create
returns-in_err-check_caller-clause-code_value c a = passed_on c.in_err-check_caller.field-0.0 c.from_residual.result _ c.from_residual.ensures.1 (c.in_err-check_caller.ensures a)

pub returns-then-beyond-clause-code_value : goal.returns-then-beyond-clause-code_value
unfolding check_create
returns-then-beyond-clause-code_value c a =
    let n = (goal.at.returns-then-beyond-clause-code_value c).After-beyond in
    elim c.then-beyond.branch [
      | then-beyond-via-then-beyond w ↦ rw (awake n a, sym c.beyond.ensures ∙ w.if-beyond.true)
      | then-beyond-via-else-beyond+then-mode-gt-MODE_MAX w ↦ rw (awake n a, sym c.beyond.ensures ∙ w.if-beyond.false, lt-ltb mode_max _ w.if-mode-gt-MODE_MAX.true)
    ]

pub returns-clause-code_value : goal.returns-clause-code_value
unfolding check_create
returns-clause-code_value c a =
    rw (awake (goal.at.returns-clause-code_value c).After-beyond a, sym c.beyond.ensures ∙ c.if-beyond.false, le-ltb mode_max _ c.if-mode-gt-MODE_MAX.false, c.ok_or.ensures.value, c.free_slot.ensures) (slot_code _)
