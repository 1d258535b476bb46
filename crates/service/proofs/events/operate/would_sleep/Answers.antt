use Rattle.std.proofs.Common.{sym, refl, ◌∙◌}
use Rattle.service.proofs.events.operate.would_sleep.Goals as goal

pub returns : goal.returns
returns c = rw (sym c.at_once.ensures ∙ c.if-at_once.false) (record { host_after = c.fall_asleep.ensures; value = refl })
