use native.Mathlib.Omega.{arith}
use Rattle.lines.specs.Text.{word_line}
use Rattle.lines.proofs.Decimal.{marked_digits}
use Rattle.lines.proofs.Writing.{also, at_most}
use Rattle.lines.proofs.worded.Goals as goal

-- `lines::worded` meets its contract, piece by piece.
pub returns : goal.returns
unfolding word_line
returns c =
    let number = marked_digits c.marked.ensures (omega arith) in
    at_most (also (also c.text.ensures number) c.byte.ensures) (omega arith)
