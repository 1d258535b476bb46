-- A refused event has a code other than 0.
use Rattle.std.proofs.Common.{◌≡◌, ◌≢◌, ℕ, zero, suc, refl, arith}
use Rattle.model.specs.declared.Refusal.{Refusal}
use Rattle.model.specs.declared.Refusal.TheVariants.{NotOwner, NoProcess, TooLong, NotPermitted, Asleep, Invalid, NumberTooHigh, NoSlot, OutOfRange}
use Rattle.model.specs.Refusal.{errno_of}
use Rattle.model.specs.Checks.{or_else}

pub errno_some : (r : Refusal) → errno_of r ≢ 0
errno_some NotOwner = λ z. omega (arith, z)
errno_some NoProcess = λ z. omega (arith, z)
errno_some TooLong = λ z. omega (arith, z)
errno_some NotPermitted = λ z. omega (arith, z)
errno_some Asleep = λ z. omega (arith, z)
errno_some Invalid = λ z. omega (arith, z)
errno_some NumberTooHigh = λ z. omega (arith, z)
errno_some NoSlot = λ z. omega (arith, z)
errno_some OutOfRange = λ z. omega (arith, z)

-- .. and so decides, whatever the later checks say
pub refusal_decides : (r : Refusal) {code : ℕ} (later : ℕ) → errno_of r ≡ code → errno_of r ≡ or_else code later
refusal_decides r {code} later e = go code e (λ z. errno_some r (rw z at e))
  where
    go : (code : ℕ) → errno_of r ≡ code → (code ≢ 0) → errno_of r ≡ or_else code later
    go zero e n = absurd (n refl)
    go (suc code) e n = e
