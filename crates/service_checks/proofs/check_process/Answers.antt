use mathlib.Core.Path.{sym, ◌∙◌}
use Rattle.model.specs.Checks.{no_process, check_process}
use Rattle.service_checks.proofs.check_process.Goals as goal

pub returns-then-beyond : goal.returns-then-beyond
unfolding no_process check_process
returns-then-beyond c = rw (sym c.beyond.ensures ∙ c.if-beyond.true)

pub returns-else-beyond : goal.returns-else-beyond
unfolding no_process check_process
returns-else-beyond c = rw (sym c.beyond.ensures ∙ c.if-beyond.false)
