use Rattle.std.proofs.Common.{refl}
use Rattle.host.specs.Parts.{clock}
use Rattle.host.proofs.clock.put_time.Goals as goal

pub returns : goal.returns
returns c = c.put.ensures clock refl
