use Rattle.std.proofs.Common.{refl}
use Rattle.host.specs.Parts.{sleeps_at, sizes, names}
use Rattle.host.proofs.PartLaws.{put_after}
use Rattle.host.proofs.sleepers.put_call.Goals as goal

pub returns : goal.returns
returns c =
    let e = c.entry_of-i.ensures in
    rw (← e) (put_after names _ _ (c.put-3.ensures names refl) (put_after sizes _ _ (c.put-2.ensures sizes refl) (c.put.ensures sleeps_at refl)))
