use Rattle.std.proofs.Common.{refl}
use Rattle.host.specs.Parts.{order}
use Rattle.host.proofs.sleepers.put_process.Goals as goal

pub returns : goal.returns
returns c = c.put.ensures order refl
