use native.Mathlib.Omega.{arith}
use mir.Syntax.{w32, w64}
use mir.Val.{SFits, Fits}
use mir.Facts.{to_z-of_z}
use borrow.Author.Rules.{rules}
use Rattle.lines.specs.Text.{event_text}
use Rattle.lines.proofs.Decimal.{marked_digits}
use Rattle.lines.proofs.Writing.{also, at_most}
use Rattle.lines.proofs.all_told.Goals as goal

-- `lines::all_told` meets its contract, piece by piece.
pub returns : goal.returns
unfolding event_text
returns c =
    let t = c.args.told in
    let code : SFits w32 t.code = search rules in
    let value : Fits w32 t.value = search rules in
    let looks : Fits w64 t.looks = search rules in
    let begun = also (rw (to_z-of_z code) at c.opening.ensures) c.decided.ensures in
    let valued = also begun (marked_digits c.marked.ensures (omega (arith, value.fits))) in
    let looked = also valued (marked_digits c.marked-2.ensures (omega (arith, looks.fits))) in
    at_most (also (also looked c.all_woken.ensures) c.byte.ensures) (omega arith)
