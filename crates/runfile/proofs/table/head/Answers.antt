use Rattle.std.proofs.Common.{◌∙◌}
use borrow.Author.Tests.{le-ltb}
use Rattle.runfile.specs.Table.{count_in}
use Rattle.runfile.proofs.Numbers.{first_is, half_is}
use Rattle.runfile.proofs.table.head.Goals as goal

pub returns : goal.returns
unfolding count_in
returns c =
    let first = c.in_ok-head.ensures.cases in
    (first.enough, rw (le-ltb _ _ first.enough) (c.from_le_bytes.ensures ∙ half_is _ 0 _ (first_is 2 _ _ first.same)))
