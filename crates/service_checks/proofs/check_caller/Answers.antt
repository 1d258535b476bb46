use mathlib.Core.Path.{sym, ◌∙◌}
use Rattle.service_checks.proofs.FoundSets.{passed_on, caller_is}
use Rattle.service_checks.proofs.check_caller.Goals as goal

pub returns-in_err-check_process : goal.returns-in_err-check_process
returns-in_err-check_process c a = passed_on c.in_err-check_process.field-0.0 c.from_residual.result _ c.from_residual.ensures.1 c.in_err-check_process.ensures ∙ sym (caller_is _ _)

pub returns-then-is_asleep : goal.returns-then-is_asleep
returns-then-is_asleep c a = rw (caller_is, ← c.in_ok-check_process.ensures, sym c.is_asleep.ensures ∙ c.if-is_asleep.true)

pub returns-else-is_asleep : goal.returns-else-is_asleep
returns-else-is_asleep c a = rw (caller_is, ← c.in_ok-check_process.ensures, sym c.is_asleep.ensures ∙ c.if-is_asleep.false)
