use mathlib.Core.Path.{◌∙◌}
use borrow.Author.Rules.{rules}
use mir.Syntax.{w32}
use mir.Val.{SFits}
use mir.Facts.{to_z-of_z}
use lib.ListN.{get_or}
use Rattle.judging.proofs.Pieces.{signed_four_is}
use Rattle.judging.proofs.setting.value_at.Goals as goal

pub returns : goal.returns
returns c =
    let b = c.args.bytes.now in
    let f : SFits w32 c.from_le_bytes.result = search rules in
    to_z-of_z f ∙ c.from_le_bytes.ensures ∙ signed_four_is (get_or b 0 0) (get_or b 1 0) (get_or b 2 0) (get_or b 3 0) (c.fits-bytes 0) (c.fits-bytes 1) (c.fits-bytes 2) (c.fits-bytes 3)
