use Rattle.std.proofs.Common.{refl}
use Rattle.host.specs.Parts.{users, groups}
use Rattle.host.proofs.PartLaws.{put_after}
use Rattle.host.proofs.callers.put_caller.Goals as goal

pub returns : goal.returns
returns c = rw (← c.entry_of-i.ensures) (put_after groups _ _ (c.put-2.ensures groups refl) (c.put.ensures users refl))
