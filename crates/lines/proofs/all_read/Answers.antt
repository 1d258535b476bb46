use native.Mathlib.Omega.{arith}
use mir.Syntax.{w32}
use mir.Val.{SFits}
use mir.Facts.{to_z-of_z}
use borrow.Author.Rules.{rules}
use Rattle.lines.specs.Text.{read_text}
use Rattle.lines.proofs.Writing.{also, at_most}
use Rattle.lines.proofs.all_read.Goals as goal

-- `lines::all_read` meets its contract, piece by piece.
pub returns : goal.returns
unfolding read_text
returns c =
    let code : SFits w32 c.args.reading.code = search rules in
    let begun = rw (to_z-of_z code) at c.opening.ensures in
    at_most (also (also begun (rw c.from.ensures at c.all_numbers.ensures)) c.byte.ensures) (omega arith)
