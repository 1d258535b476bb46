use borrow.Author.Tests.{le-ltb}
use Rattle.model.specs.Limits.{time_max}
use Rattle.model.specs.Checks.{check_clock}
use Rattle.service_checks.proofs.FoundSets.{time_refused}
use Rattle.service_checks.proofs.check_clock.Goals as goal

pub returns-then-time-gt-TIME_MAX : goal.returns-then-time-gt-TIME_MAX
unfolding check_clock
returns-then-time-gt-TIME_MAX c a = rw (← c.time_of.ensures, time_refused _ _ c.if-time-gt-TIME_MAX.either)

pub returns-else-time-gt-TIME_MAX : goal.returns-else-time-gt-TIME_MAX
unfolding check_clock
returns-else-time-gt-TIME_MAX c a =
    let h = c.if-time-gt-TIME_MAX.false in
    rw (← c.time_of.ensures, le-ltb _ _ h.0, le-ltb time_max _ h.1)
