-- The decimal digits of a number: by its tenth, and how many there are.
use Prim.Native.Nat.{ℕ, zero, suc, ◌+◌, ◌/◌, ◌%◌, ◌^◌, ◌<◌, ◌≤◌}
use mathlib.Core.Path.{◌≡◌, refl, ap, ◌∙◌}
use mathlib.Core.Bool.{Bool, true, false, cond}
use mathlib.Core.List.{[], ◌∷◌, ◌++◌}
use native.Mathlib.Nat.{div-lt_iff_lt-mul, pow-suc}
use native.Mathlib.Omega.{arith}
use lib.Dec.{T, leb, ltb, leb→le}
use lib.ListN.{length, length-append}
use mir.Syntax.{Width}
use mir.Val.{Fits, bits}
use borrow.Author.Tests.{lt-ltb, le-ltb, ltb-true, ltb-false}
use Rattle.lines.specs.Text.{digit, digits_in, digits_of}

-- the digits do not depend on the bound
same : (f g n : ℕ) → n ≤ f → n ≤ g → digits_in f n ≡ digits_in g n
unfolding digits_in
same zero zero n h k = refl
same zero (suc g) n h k = let e : n < 10 = omega arith in rw (lt-ltb n 10 e)
same (suc f) zero n h k = let e : n < 10 = omega arith in rw (lt-ltb n 10 e)
same (suc f) (suc g) n h k = by (ltb n 10) refl (λ l. same f g (n / 10) (omega arith) (omega arith))
  where
    by : (t : Bool) → ltb n 10 ≡ t → (10 ≤ n → digits_in f (n / 10) ≡ digits_in g (n / 10))
        → cond t (digit n ∷ []) (digits_in f (n / 10) ++ digit (n % 10) ∷ []) ≡ cond t (digit n ∷ []) (digits_in g (n / 10) ++ digit (n % 10) ∷ [])
    by true e rest = refl
    by false e rest = rw (rest (ltb-false n 10 e))

pub digits_one : (n : ℕ) → n < 10 → digits_of n ≡ digit n ∷ []
unfolding digits_of digits_in
digits_one zero h = refl
digits_one (suc n) h = rw (lt-ltb (suc n) 10 h)

pub digits_more : (n : ℕ) → 10 ≤ n → digits_of n ≡ digits_of (n / 10) ++ digit (n % 10) ∷ []
unfolding digits_of digits_in
digits_more zero h = absurd (no h)
  where
    no : 10 ≤ 0 → ⊥
    no z = omega arith
digits_more (suc n) h = rw (le-ltb (suc n) 10 h) (ap (λ l. l ++ digit (suc n % 10) ∷ []) (same n (suc n / 10) (suc n / 10) (omega arith) (omega arith)))

pub count_one : (n : ℕ) → n < 10 → length (digits_of n) ≡ 1
count_one n h = ap length (digits_one n h)

pub count_more : (n : ℕ) → 10 ≤ n → length (digits_of n) ≡ length (digits_of (n / 10)) + 1
count_more n h = ap length (digits_more n h) ∙ length-append (digits_of (n / 10)) (digit (n % 10) ∷ [])

-- a number below 10 ^ k has at most k digits
pub digits_short : (k n : ℕ) → n < 10 ^ suc k → length (digits_of n) ≤ suc k
digits_short zero n h = omega (arith, count_one n h)
digits_short (suc k) n h = by (ltb n 10) refl (digits_short k (n / 10))
  where
    by : (t : Bool) → ltb n 10 ≡ t → (n / 10 < 10 ^ suc k → length (digits_of (n / 10)) ≤ suc k) → length (digits_of n) ≤ suc (suc k)
    by true e rest = omega (arith, count_one n (ltb-true n 10 e))
    by false e rest = omega (arith, count_more n (ltb-false n 10 e), rest ((div-lt_iff_lt-mul (omega arith)).1 (rw (pow-suc 10 (suc k)) at h)))

-- .. and so one that fits a width whose numbers are all below it
pub digits_fit : (w : Width) (k : ℕ) {n : ℕ} → T (leb (2 ^ bits w) (10 ^ suc k)) → Fits w n → length (digits_of n) ≤ suc k
digits_fit w k {n} h f = digits_short k n (omega (arith, leb→le (2 ^ bits w) (10 ^ suc k) h, f.fits))
