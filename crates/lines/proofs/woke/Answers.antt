use native.Mathlib.Omega.{arith}
use Rattle.lines.specs.Text.{signed_of, waking_text}
use Rattle.lines.proofs.Decimal.{marked_digits}
use Rattle.lines.proofs.Writing.{also, at_most}
use Rattle.lines.proofs.woke.Goals as goal

-- `lines::woke` meets its contract, piece by piece.
pub returns : goal.returns
unfolding waking_text signed_of
returns c =
    let process = marked_digits c.marked.ensures (omega arith) in
    let code = marked_digits c.marked-2.ensures (omega arith) in
    at_most (also (also process code) c.decided.ensures) (omega arith)
