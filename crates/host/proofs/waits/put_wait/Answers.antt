use Rattle.std.proofs.Common.{refl}
use Rattle.host.specs.Parts.{starts, waits}
use Rattle.host.proofs.PartLaws.{put_after}
use Rattle.host.proofs.waits.put_wait.Goals as goal

pub returns : goal.returns
returns c = rw (← c.entry_of-i.ensures) (put_after waits _ _ (c.put-2.ensures waits refl) (c.put.ensures starts refl))
