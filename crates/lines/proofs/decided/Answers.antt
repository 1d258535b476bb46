use native.Mathlib.Omega.{arith}
use mir.Syntax.{w8}
use mir.Val.{Fits}
use borrow.Author.Rules.{rules}
use Rattle.lines.specs.Text.{position_text}
use Rattle.lines.proofs.Decimal.{marked_digits}
use Rattle.lines.proofs.Writing.{nothing, at_most}
use Rattle.lines.proofs.decided.Goals as goal

pub returns-in-None : goal.returns-in-None
unfolding position_text
returns-in-None c =
    rw c.in-None.is (at_most (nothing c.args.line.now (search rules)) (omega arith))

pub returns-in-Some : goal.returns-in-Some
unfolding position_text
returns-in-Some c =
    let n : Fits w8 c.in-Some.number = search rules in
    rw c.in-Some.is (marked_digits c.marked.ensures (omega (arith, n.fits)))
