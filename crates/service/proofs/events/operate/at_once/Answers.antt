use Rattle.std.proofs.Common.{rules}
use Rattle.model.specs.Clock.{at_once}
use Rattle.service.proofs.events.operate.at_once.Goals as goal

pub returns : goal.returns
unfolding at_once
returns c = search rules
