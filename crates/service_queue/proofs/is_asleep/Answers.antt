use mathlib.Core.Path.{ap, ◌∙◌}
use lib.Dec.{ltb}
use Rattle.service_queue.proofs.PositionLaws.{asleep_read}
use Rattle.service_queue.proofs.is_asleep.Goals as goal

pub returns : goal.returns
returns c = ap (ltb 0) c.size_at.ensures ∙ asleep_read c.requires c.args.process
