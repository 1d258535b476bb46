use borrow.Author.Rules.{rules}
use mathlib.Core.Path.{◌∙◌}
use lib.ListN.{get_or}
use mir.Syntax.{w16}
use mir.Val.{SFits}
use mir.Facts.{to_z-of_z}
use Rattle.judging.proofs.Pieces.{two_is, signed_two_is}
use Rattle.judging.proofs.operation.operation_of.Goals as goal

pub returns : goal.returns
returns c =
    let b = c.args.bytes.now in
    let fits : SFits w16 c.from_le_bytes-amount.result = search rules in
    rw (
      c.from_le_bytes-number.ensures ∙ two_is (get_or b 0 0) (get_or b 1 0),
      to_z-of_z fits ∙ c.from_le_bytes-amount.ensures ∙ signed_two_is (get_or b 2 0) (get_or b 3 0) (c.fits-bytes 2) (c.fits-bytes 3),
      c.from_le_bytes-flags.ensures ∙ two_is (get_or b 4 0) (get_or b 5 0),
    )
