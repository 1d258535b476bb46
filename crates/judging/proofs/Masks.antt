-- The bit of a number in a mask of eight.
use mathlib.Core.Path.{◌≡◌}
use Prim.Native.Nat.{ℕ, ◌*◌, ◌%◌, ◌^◌, ◌<◌}
use lib.Pow.{pow-lt}
use native.Mathlib.Nat.{mod-eq_of_lt}
use native.Mathlib.Omega.{arith}

-- the bit of a number below eight, as the code shifts it
pub shifted : (n : ℕ) → n < 8 → 1 * 2 ^ n % 256 ≡ 2 ^ n
shifted n h = let e : 1 * 2 ^ n ≡ 2 ^ n = omega arith in rw e (mod-eq_of_lt (pow-lt {i = n} {j = 8} h))
