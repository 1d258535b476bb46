use Rattle.std.proofs.Common.{refl}
use Rattle.host.specs.Parts.{values}
use Rattle.host.proofs.semaphores.put_value.Goals as goal

pub returns : goal.returns
returns c = c.put.ensures values refl
