use Rattle.std.proofs.Common.{◌≡◌, ℕ, zero, suc, ◌+◌, ◌*◌, ◌%◌, ◌^◌, ◌<◌, ◌≤◌, refl, ◌∙◌, mod-eq_of_lt, one-mul, pow-suc, arith}
use native.Mathlib.Decide.{dec_lt}
use lib.Bits.{bit_or, or_shifted_r}
use lib.Pow.{pow-lt}
use Rattle.model.specs.Limits.{semaphores}
use Rattle.model.specs.Marks.{every_number}
use Rattle.service.proofs.events.set_all.every_number.Goals as goal

-- `every_number` meets its contract: the numbers below the count are the power of two less one.
power : (n : ℕ) → every_number n + 1 ≡ 2 ^ n
unfolding every_number
power zero = refl
power (suc n) =
    let h : every_number n + 1 ≡ 2 ^ n = power n in
    let o : bit_or (every_number n) (2 ^ n) ≡ 2 ^ n + every_number n = rw (one-mul (2 ^ n)) at (or_shifted_r 1 n (every_number n) (omega arith)) in
    omega (arith, pow-suc 2 n)

-- a set has at most eight semaphores
few : (count : ℕ) → count ≤ semaphores → 2 ^ count ≤ 256
few count h = go (dec_lt count semaphores)
  where
    go : Dec (count < semaphores) → 2 ^ count ≤ 256
    go (yes lt) = let p : 2 ^ count < 256 = pow-lt {i = count} {j = semaphores} lt in omega arith
    go (no ge) = let e : count ≡ semaphores = omega arith in rw e (omega arith)

-- `1u16 << count`
shifted : (count : ℕ) → count ≤ semaphores → 1 * 2 ^ count % 65536 ≡ every_number count + 1
shifted count h = let p : 2 ^ count < 65536 = omega (arith, few count h) in rw one-mul (mod-eq_of_lt p ∙ omega (arith, power count))

pub returns : goal.returns
returns c = omega (arith, shifted c.args.count c.requires)
