use Rattle.std.proofs.Common.{refl}
use Rattle.host.specs.Parts.{generations, counts, owners, owning_groups, modes}
use Rattle.host.proofs.PartLaws.{put_after}
use Rattle.host.proofs.sets.put_set.Goals as goal

pub returns : goal.returns
returns c =
    let counted = put_after counts _ _ (c.put-2.ensures counts refl) (c.put.ensures generations refl) in
    let owned = put_after owning_groups _ _ (c.put-4.ensures owning_groups refl) (put_after owners _ _ (c.put-3.ensures owners refl) counted) in
    put_after modes _ _ (c.put-5.ensures modes refl) owned
