use Rattle.std.proofs.Common.{refl}
use Rattle.host.specs.Parts.{asleep}
use Rattle.host.proofs.sleepers.put_asleep.Goals as goal

pub returns : goal.returns
returns c = c.put.ensures asleep refl
