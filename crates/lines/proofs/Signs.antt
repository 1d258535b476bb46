-- A code's text has at most ten digits and a sign.
use Prim.Native.Nat.{suc, ◌≤◌}
use native.Mathlib.Omega.{arith}
use lib.ListN.{length}
use lib.IntN.{ℤ, pos, negsuc}
use mir.Syntax.{w32}
use mir.Val.{SFits}
use Rattle.lines.proofs.Digits.{digits_short}
use Rattle.lines.specs.Text.{signed_of}

pub signed_short : (z : ℤ) → SFits w32 z → length (signed_of z) ≤ 11
unfolding signed_of
signed_short (pos n) h = omega (arith, digits_short 9 n (omega (arith, h.sfits)))
signed_short (negsuc n) h = omega (arith, digits_short 9 (suc n) (omega (arith, h.sfits)))
