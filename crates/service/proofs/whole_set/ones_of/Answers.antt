use Rattle.std.proofs.Common.{rules}
use Rattle.model.proofs.WholeSetLaws.{each_is}
use Rattle.service.proofs.whole_set.ones_of.Goals as goal

pub returns : goal.returns
returns c =
    let m = c.map.ensures.items in
    each_is _ _ m.long (λ n h. let called = (m.at n 0 0 h).2 in search rules)
