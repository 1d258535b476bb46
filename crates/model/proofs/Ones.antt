-- "the count is the number of ones in it": the ones of a query's mask are as many as the sleepers that it counts.
use Prim.Native.Nat.{ℕ, zero, suc, ◌+◌, ◌*◌, ◌-◌, ◌/◌, ◌%◌, ◌^◌, ◌≤◌, ◌<◌}
use native.Mathlib.Nat.{div-div-eq-div-mul}
use native.Mathlib.Omega.{arith}
use mathlib.Core.Path.{◌≡◌, ap, ap₂, ◌∙◌}
use mathlib.Core.Bool.{Bool, true, false, cond}
use mathlib.Core.List.{List, [], ◌∷◌}
use lib.Bits.{bit_or, or_step, or_zero_r}
use lib.Count.{ones, ones_step}
use Rattle.model.specs.declared.Set.{Set}
use Rattle.model.specs.State.{Sleeper}
use Rattle.model.specs.Marks.{bit_of, mask_of}
use Rattle.model.specs.Counts.{count_of}
use Rattle.model.specs.Runs.{All}
use Rattle.model.proofs.Lists.{first, rest, all_map, all_zip3}
use Rattle.model.specs.Invariant.{Fits, Distinct}
use Rattle.model.proofs.Bits.{bit, bit_zero, bit_or_other}
use Rattle.model.proofs.QueueLaws.{others_first, distinct_rest}

-- a number by its half and its last digit
ones_of : (n a d : ℕ) → n ≡ a * 2 + d → d < 2 → ones n ≡ d + ones a
ones_of n a d e h =
    let f : n % 2 ≡ d = omega arith in
    let g : n / 2 ≡ a = omega arith in
    ones_step n ∙ ap₂ (λ (x y : ℕ). x + ones y) f g

-- a bit that was off is one more
pub ones_or : (k m : ℕ) → bit m k ≡ 0 → ones (bit_or m (2 ^ k)) ≡ suc (ones m)
ones_or zero m h =
    let e : bit_or m 1 ≡ m / 2 * 2 + 1 = omega (arith, or_step m 1, or_zero_r (m / 2)) in
    omega (arith, ones_of (bit_or m 1) (m / 2) 1 e (omega arith), ones_of m (m / 2) 0 (omega arith) (omega arith))
ones_or (suc k) m h =
    let half : 2 ^ suc k / 2 ≡ 2 ^ k = omega arith in
    let even : 2 ^ suc k % 2 ≡ 0 = omega arith in
    let s₀ : bit_or m (2 ^ suc k) ≡ bit_or (m / 2) (2 ^ suc k / 2) * 2 + m % 2 = omega (arith, or_step m (2 ^ suc k)) in
    let s : bit_or m (2 ^ suc k) ≡ bit_or (m / 2) (2 ^ k) * 2 + m % 2 = rw half at s₀ in
    let p : 2 * 2 ^ k ≡ 2 ^ suc k = omega arith in
    let b : bit (m / 2) k ≡ 0 = ap (λ (x : ℕ). x % 2) (div-div-eq-div-mul m 2 (2 ^ k) ∙ ap (λ (x : ℕ). m / x) p) ∙ h in
    omega (arith, ones_of (bit_or m (2 ^ suc k)) (bit_or (m / 2) (2 ^ k)) (m % 2) s (omega arith), ones_of m (m / 2) (m % 2) (omega arith) (omega arith), ones_or k (m / 2) b)

module _ (test : Sleeper → Bool) where
  -- to a mask in which none of the queue has its bit
  ones_onto : (m : ℕ) (q : List Sleeper) → Distinct q → All (λ (s : Sleeper). 1 ≤ s.process) q → All (λ (s : Sleeper). bit m (s.process - 1) ≡ 0) q
      → ones (mask_of test m q) ≡ ones m + count_of test q
  unfolding mask_of count_of
  ones_onto m [] d n h = omega arith
  ones_onto m (s ∷ q) d n h = go (test s) (λ m. ones_onto m q (distinct_rest d) (rest n))
    where
      off : All (λ (x : Sleeper). bit (bit_or m (bit_of s.process)) (x.process - 1) ≡ 0) q
      off = all_zip3 (λ x o nx e. bit_or_other m (s.process - 1) (x.process - 1) (λ z. o (omega (arith, z, nx, first n))) ∙ e) (others_first d) (rest n) (rest h)

      go : (b : Bool) → ((m : ℕ) → All (λ (s : Sleeper). bit m (s.process - 1) ≡ 0) q → ones (mask_of test m q) ≡ ones m + count_of test q)
          → ones (mask_of test (cond b (bit_or m (bit_of s.process)) m) q) ≡ ones m + (cond b 1 0 + count_of test q)
      go true ih = omega (arith, ih (bit_or m (bit_of s.process)) off, ones_or (s.process - 1) m (first h))
      go false ih = omega (arith, ih m (rest h))

  pub ones_mask : {sets : List Set} (q : List Sleeper) → All (Fits sets) q → Distinct q → ones (mask_of test 0 q) ≡ count_of test q
  unfolding ones
  ones_mask q f d = omega (arith, ones_onto 0 q d (all_map (λ s k. k.process) f) (all_map (λ s k. bit_zero (s.process - 1)) f))
