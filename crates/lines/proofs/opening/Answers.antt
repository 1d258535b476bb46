use native.Mathlib.Omega.{arith}
use Rattle.lines.proofs.Decimal.{in_digits, marked_code}
use Rattle.lines.proofs.Writing.{also}
use Rattle.lines.proofs.opening.Goals as goal

-- `lines::opening` meets its contract, piece by piece.
pub returns : goal.returns
returns c =
    also (in_digits c.number.ensures (omega arith)) (marked_code c.marked.ensures c.ranges.code)
