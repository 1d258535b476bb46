-- A single bit of a mask: after `&`, `|` and `^`, and in a power of two.
use Prim.Native.Nat.{ℕ, zero, suc, ◌+◌, ◌*◌, ◌-◌, ◌/◌, ◌%◌, ◌^◌, ◌<◌, max, min}
use native.Mathlib.Nat.{mul-mod_left, mod-lt, div-one, zero-div, div-eq_of_lt, mul-div-mul_right, pow-suc, zero-lt-suc}
use native.Mathlib.Omega.{arith}
use mathlib.Core.Path.{◌≡◌, refl, ◌∙◌, ap, ap₂}
use mathlib.Core.Logic.{◌≢◌}
use mathlib.Core.Bool.{false, not}
use lib.Dec.{eqb}
use lib.Pow.{pow_pos, pow-lt}
use lib.Bits.{bit_and, bit_or, bit_xor, differ, and_step, or_step, xor_step, and_shr, or_shr, xor_shr, and_high}
use borrow.Author.Tests.{eq-eqb, ne_eqb, eqb-true, not-false}
use Rattle.model.specs.Operation.{has_bit}

abbrev pub bit : ℕ → ℕ → ℕ
bit m k = m / 2 ^ k % 2

pub bit_lt : (m k : ℕ) → bit m k < 2
bit_lt m k = mod-lt (m / 2 ^ k) (zero-lt-suc 1)

pub bit_zero : (k : ℕ) → bit 0 k ≡ 0
bit_zero k = ap (λ (x : ℕ). x % 2) (zero-div (2 ^ k))

-- ---- a power of two has one bit

pub bit_pow_same : (k : ℕ) → bit (2 ^ k) k ≡ 1
bit_pow_same zero = refl
bit_pow_same (suc k) = ap (λ (x : ℕ). x % 2) (ap₂ (λ (x y : ℕ). x / y) (pow-suc 2 k) (pow-suc 2 k) ∙ mul-div-mul_right (2 ^ k) (2 ^ k) (zero-lt-suc 1)) ∙ bit_pow_same k

pub bit_pow_other : (k j : ℕ) → j ≢ k → bit (2 ^ k) j ≡ 0
bit_pow_other zero zero h = absurd (h refl)
bit_pow_other zero (suc j) h = ap (λ (x : ℕ). x % 2) (div-eq_of_lt (pow-lt {i = 0} {j = suc j} (zero-lt-suc j)))
bit_pow_other (suc k) zero h = ap (λ (x : ℕ). x % 2) (div-one (2 ^ suc k) ∙ pow-suc 2 k) ∙ mul-mod_left (2 ^ k) 2
bit_pow_other (suc k) (suc j) h =
    ap (λ (x : ℕ). x % 2) (ap₂ (λ (x y : ℕ). x / y) (pow-suc 2 k) (pow-suc 2 j) ∙ mul-div-mul_right (2 ^ k) (2 ^ j) (zero-lt-suc 1))
    ∙ bit_pow_other k j (λ e. h (ap suc e))

-- ---- the three operations, bit by bit

-- the last digit of a double and a digit
last_digit : (a d : ℕ) → d < 2 → (a * 2 + d) % 2 ≡ d
last_digit a d h = omega arith

differ_lt : (x y : ℕ) → x < 2 → y < 2 → differ x y < 2
differ_lt zero y h k = k
differ_lt (suc x) zero h k = h
differ_lt (suc x) (suc y) h k = differ_lt x y (omega arith) (omega arith)

module _ (m n k : ℕ) where
  pub bit_and_lem : bit (bit_and m n) k ≡ min (bit m k) (bit n k)
  bit_and_lem =
      ap (λ (x : ℕ). x % 2) (and_shr m n k ∙ and_step (m / 2 ^ k) (n / 2 ^ k))
      ∙ last_digit (bit_and (m / 2 ^ k / 2) (n / 2 ^ k / 2)) (min (bit m k) (bit n k)) (omega (arith, bit_lt m k))

  pub bit_or_lem : bit (bit_or m n) k ≡ max (bit m k) (bit n k)
  bit_or_lem =
      ap (λ (x : ℕ). x % 2) (or_shr m n k ∙ or_step (m / 2 ^ k) (n / 2 ^ k))
      ∙ last_digit (bit_or (m / 2 ^ k / 2) (n / 2 ^ k / 2)) (max (bit m k) (bit n k)) (omega (arith, bit_lt m k, bit_lt n k))

  pub bit_xor_lem : bit (bit_xor m n) k ≡ differ (bit m k) (bit n k)
  bit_xor_lem =
      ap (λ (x : ℕ). x % 2) (xor_shr m n k ∙ xor_step (m / 2 ^ k) (n / 2 ^ k))
      ∙ last_digit (bit_xor (m / 2 ^ k / 2) (n / 2 ^ k / 2)) (differ (bit m k) (bit n k)) (differ_lt (bit m k) (bit n k) (bit_lt m k) (bit_lt n k))

  -- a bit that is on stays on
  pub bit_or_keeps : bit m k ≡ 1 → bit (bit_or m n) k ≡ 1
  bit_or_keeps h = omega (arith, bit_or_lem, bit_lt n k)

pub bit_or_same : (m k : ℕ) → bit (bit_or m (2 ^ k)) k ≡ 1
bit_or_same m k = omega (arith, bit_or_lem m (2 ^ k) k, bit_pow_same k, bit_lt m k)

pub bit_or_other : (m k j : ℕ) → j ≢ k → bit (bit_or m (2 ^ k)) j ≡ bit m j
bit_or_other m k j h = omega (arith, bit_or_lem m (2 ^ k) j, bit_pow_other k j h)

differ_zero : (x : ℕ) → differ x 0 ≡ x
differ_zero zero = refl
differ_zero (suc x) = refl

pub bit_xor_other : (m k j : ℕ) → j ≢ k → bit (bit_xor m (2 ^ k)) j ≡ bit m j
bit_xor_other m k j h = bit_xor_lem m (2 ^ k) j ∙ ap (λ (x : ℕ). differ (bit m j) x) (bit_pow_other k j h) ∙ differ_zero (bit m j)

-- taking off a bit that is on
pub bit_xor_same : (m k : ℕ) → bit m k ≡ 1 → bit (bit_xor m (2 ^ k)) k ≡ 0
bit_xor_same m k h = bit_xor_lem m (2 ^ k) k ∙ ap₂ differ h (bit_pow_same k)

-- ---- the test of a mask

-- with a single bit
pub and_pow : (m k : ℕ) → bit_and m (2 ^ k) ≡ bit m k * 2 ^ k
and_pow m k =
    let c : 1 + k ≡ suc k = omega arith in
    let e : 2 ^ (1 + k) - 2 ^ k ≡ 2 ^ k = rw c (omega (arith, pow-suc 2 k)) in
    rw e at (and_high m 1 k)

pub has_bit_bit : (m k : ℕ) → has_bit m (2 ^ k) ≡ eqb (bit m k) 1
has_bit_bit m k = rw (and_pow m k) (go (bit m k) (bit_lt m k))
  where
    go : (b : ℕ) → b < 2 → not (eqb (b * 2 ^ k) 0) ≡ eqb b 1
    go zero h = rw (eq-eqb (0 * 2 ^ k) 0 (omega arith))
    go (suc zero) h = rw (ne_eqb (1 * 2 ^ k) 0 (λ e. omega (arith, pow_pos k)))
    go (suc (suc b)) h = absurd (omega arith)

-- with any: no bit is on in both
pub has_bit_none : (m n k : ℕ) → has_bit m n ≡ false → bit m k ≡ 1 → bit n k ≡ 0
has_bit_none m n k h e =
    let z : bit_and m n ≡ 0 = eqb-true (bit_and m n) 0 (not-false _ h) in
    let a : bit (bit_and m n) k ≡ 0 = rw z (bit_zero k) in
    omega (arith, bit_and_lem m n k, bit_lt n k)
