use native.Mathlib.Omega.{arith}
use mir.Syntax.{w8, w16, w32}
use mir.Val.{SFits, Fits}
use mir.Facts.{to_z-of_z}
use borrow.Author.Rules.{rules}
use Rattle.lines.specs.Text.{query_text}
use Rattle.lines.proofs.Decimal.{marked_digits}
use Rattle.lines.proofs.Writing.{also, at_most}
use Rattle.lines.proofs.queried.Goals as goal

-- `lines::queried` meets its contract, piece by piece.
pub returns : goal.returns
unfolding query_text
returns c =
    let q = c.args.q in
    let code : SFits w32 q.code = search rules in
    let value : Fits w16 q.value = search rules in
    let last : Fits w8 q.last = search rules in
    let increase : Fits w32 q.increase = search rules in
    let zero : Fits w32 q.zero = search rules in
    let valued = also (rw (to_z-of_z code) at c.opening.ensures) (marked_digits c.marked.ensures (omega (arith, value.fits))) in
    let lasted = also valued (marked_digits c.marked-2.ensures (omega (arith, last.fits))) in
    let increased = also lasted (marked_digits c.marked-3.ensures (omega (arith, increase.fits))) in
    let zeroed = also increased (marked_digits c.marked-4.ensures (omega (arith, zero.fits))) in
    at_most (also zeroed c.byte.ensures) (omega arith)
