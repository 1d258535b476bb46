-- The loops over the values and the last processes of a slot; a row of zeros; and the last processes after an array.
use Rattle.std.proofs.Common.{◌≡◌, ℕ, zero, suc, ◌+◌, ◌-◌, ◌*◌, ◌%◌, ◌^◌, ◌<◌, ◌≤◌, Bool, true, false, cond, not, eqb, ◌≢◌, List, ◌∷◌, length, get_or, set, replicate, sym, refl, ap, ◌∙◌, ap₂, le_of_suc-le-suc, not-suc-le-zero, add-zero, mod-eq_of_lt, one-mul, arith, set-set, eq-eqb, ne_eqb, eqb-true}
use native.Mathlib.Nat.{sub-zero}
use borrow.Author.Tests.{eqb-false}
use lib.Bits.{bit_and, bit_or}
use lib.Pow.{pow-lt}
use lib.Seq.{set_comm, set_out}
use Rattle.model.specs.State.{fresh_state}
use Rattle.model.specs.Operation.{has_bit}
use Rattle.model.proofs.Bits.{bit_zero, bit_or_same, bit_or_other, has_bit_bit}
use Rattle.host.specs.Parts.{Part, place, host_bytes, number_at, numbers_from, Row, row_in, with, put}
use Rattle.host.specs.Rows.{masked_from, masked}
use Rattle.host.specs.Holding.{of_process, by_process, blocks_from, order_of, host_of}
use Rattle.host.proofs.PartLaws.{width, count, by_values, by_parts, length_part, with_again, with_same, with_here}

-- ---- the numbers in a mask get x

-- `mask & (1u8 << i)`
module _ (mask i : ℕ) (h : i < 8) where
  bit_of_lem : 1 * 2 ^ i % 256 ≡ 2 ^ i
  bit_of_lem = rw one-mul (mod-eq_of_lt (pow-lt {i = i} {j = 8} h))

  pub bit_on : (bit_and mask (1 * 2 ^ i % 256) ≡ 0 → ⊥) → has_bit mask (2 ^ i) ≡ true
  bit_on n = ap not (ne_eqb (bit_and mask (2 ^ i)) 0 (λ e. n (ap (λ (k : ℕ). bit_and mask k) bit_of_lem ∙ e)))

  pub bit_off : bit_and mask (1 * 2 ^ i % 256) ≡ 0 → has_bit mask (2 ^ i) ≡ false
  bit_off e = ap not (eq-eqb (bit_and mask (2 ^ i)) 0 (ap (λ (k : ℕ). bit_and mask k) (sym bit_of_lem) ∙ e))

-- the loop: of the n numbers of a part from a place on, the first j are done
pub record Masking (p : Part) (n at mask x : ℕ) (h₀ h : List ℕ) (j : ℕ) : Type 0 where
  pub within : j ≤ n
  pub long : length h ≡ host_bytes
  pub only : row_in h ≡ with (row_in h₀) p (row_in h p)
  pub same : masked_from j mask x (n - j) (at + j) (row_in h p) ≡ masked mask x n at (row_in h₀ p)

module _ (p : Part) (n at mask x : ℕ) (h₀ : List ℕ) where
  pub mask_none : length h₀ ≡ host_bytes → Masking p n at mask x h₀ h₀ 0
  mask_none long =
      record {
        within = omega arith;
        long = long;
        only = with_same (row_in h₀) p;
        same = ap₂ (λ (m k : ℕ). masked mask x m k (row_in h₀ p)) (sub-zero n) (add-zero at);
      }

  module _ (h : List ℕ) (j : ℕ) (m : Masking p n at mask x h₀ h j) (l : j < n) where
    beside : at + (j + 1) ≡ at + j + 1
    beside = omega arith

    less : suc (n - (j + 1)) ≡ n - j
    less = omega arith

    pub mask_more : (h' : List ℕ) → has_bit mask (2 ^ j) ≡ true → length h' ≡ length h → row_in h' ≡ put (row_in h) p (at + j) x → Masking p n at mask x h₀ h' (j + 1)
    unfolding masked_from
    mask_more h' t long e =
        record {
          within = omega arith;
          long = long ∙ m.long;
          only = e ∙ ap (λ (r : Row). with r p new) m.only ∙ with_again (row_in h₀) p (row_in h p) new ∙ ap (λ (r : List ℕ). with (row_in h₀) p r) (sym here);
          same =
              ap₂ (λ (k : ℕ) (r : List ℕ). masked_from (j + 1) mask x (n - (j + 1)) k r) beside here
              ∙ ap (λ (c : Bool). masked_from (j + 1) mask x (n - (j + 1)) (at + j + 1) (cond c new (row_in h p))) (sym t)
              ∙ ap (λ (k : ℕ). masked_from j mask x k (at + j) (row_in h p)) less
              ∙ m.same;
        }
      where
        new : List ℕ
        new = set (row_in h p) (at + j) x

        here : row_in h' p ≡ new
        here = ap (λ (r : Row). r p) e ∙ with_here (row_in h) p new

    -- .. nothing stored where it is not in the mask
    pub mask_kept : has_bit mask (2 ^ j) ≡ false → Masking p n at mask x h₀ h (j + 1)
    unfolding masked_from
    mask_kept t =
        record {
          within = omega arith;
          long = m.long;
          only = m.only;
          same =
              ap (λ (k : ℕ). masked_from (j + 1) mask x (n - (j + 1)) k (row_in h p)) beside
              ∙ ap (λ (c : Bool). masked_from (j + 1) mask x (n - (j + 1)) (at + j + 1) (cond c (set (row_in h p) (at + j) x) (row_in h p))) (sym t)
              ∙ ap (λ (k : ℕ). masked_from j mask x k (at + j) (row_in h p)) less
              ∙ m.same;
        }

  pub mask_all : (h : List ℕ) (j : ℕ) → Masking p n at mask x h₀ h j → n ≤ j → row_in h ≡ with (row_in h₀) p (masked mask x n at (row_in h₀ p))
  unfolding masked_from
  mask_all h j m l =
      let e : 0 ≡ n - j = omega arith in
      m.only ∙ ap (λ (r : List ℕ). with (row_in h₀) p r) (ap (λ (k : ℕ). masked_from j mask x k (at + j) (row_in h p)) e ∙ m.same)

-- what lies beyond is not written
masked_beyond : (j mask x n at : ℕ) (l : List ℕ) → length l ≤ at → masked_from j mask x n at l ≡ l
unfolding masked_from
masked_beyond j mask x zero at l h = refl
masked_beyond j mask x (suc n) at l h =
    ap (λ (r : List ℕ). masked_from (j + 1) mask x n (at + 1) r) (go (has_bit mask (2 ^ j))) ∙ masked_beyond (j + 1) mask x n (at + 1) l (omega arith)
  where
    go : (b : Bool) → cond b (set l at x) l ≡ l
    go true = set_out l at x h
    go false = refl

pub mask_beyond : (p : Part) (n at mask x : ℕ) (h : List ℕ) → count p ≤ at → row_in h ≡ with (row_in h) p (masked mask x n at (row_in h p))
mask_beyond p n at mask x h l =
    with_same (row_in h) p ∙ ap (λ (r : List ℕ). with (row_in h) p r) (sym (masked_beyond 0 mask x n at (row_in h p) (omega (arith, length_part p h))))

-- ---- a row of zeros

module _ (h : List ℕ) (z : (j : ℕ) → get_or h j 0 ≡ 0) where
  zero_number : (w at : ℕ) → number_at w h at ≡ 0
  unfolding number_at
  zero_number zero at = refl
  zero_number (suc w) at = omega (arith, z at, zero_number w (at + 1))

  zero_numbers : (w at n : ℕ) → numbers_from w at n h ≡ replicate n 0
  unfolding numbers_from
  zero_numbers w at zero = refl
  zero_numbers w at (suc n) = ap₂ (λ (x : ℕ) (r : List ℕ). x ∷ r) (zero_number w at) (zero_numbers w (at + w) n)

zeros : (n j : ℕ) → ◌≡◌ {A = ℕ} (get_or (replicate n 0) j 0) 0
zeros zero j = refl
zeros (suc n) zero = refl
zeros (suc n) (suc j) = zeros n j

pub zero_row : row_in (replicate host_bytes 0) ≡ (host_of fresh_state).row
unfolding row_in of_process by_process blocks_from order_of
zero_row =
    by_values (λ p. zero_numbers (replicate host_bytes 0) (zeros host_bytes) (width p) (place p).at (count p))
    ∙ by_parts (λ (p : Part). replicate (count p) 0) (host_of fresh_state).row refl

-- ---- masks of places

-- another bit of a mask
other_bit : (m k j : ℕ) → j ≢ k → has_bit (bit_or m (2 ^ k)) (2 ^ j) ≡ has_bit m (2 ^ j)
other_bit m k j h = has_bit_bit (bit_or m (2 ^ k)) j ∙ ap (λ (b : ℕ). eqb b 1) (bit_or_other m k j h) ∙ sym (has_bit_bit m j)

module _ (x : ℕ) where
  -- an empty mask
  pub masked_empty : (j n at : ℕ) (l : List ℕ) → masked_from j 0 x n at l ≡ l
  unfolding masked_from
  masked_empty j zero at l = refl
  masked_empty j (suc n) at l =
      let off : has_bit 0 (2 ^ j) ≡ false = has_bit_bit 0 j ∙ ap (λ (b : ℕ). eqb b 1) (bit_zero j) in
      ap (λ (b : Bool). masked_from (j + 1) 0 x n (at + 1) (cond b (set l at x) l)) off ∙ masked_empty (j + 1) n (at + 1) l

  -- two places get x, in either order
  either : (l : List ℕ) (i k : ℕ) → set (set l i x) k x ≡ set (set l k x) i x
  either l i k = go (eqb i k) refl
    where
      go : (b : Bool) → eqb i k ≡ b → set (set l i x) k x ≡ set (set l k x) i x
      go true e = ap (λ (m : ℕ). set (set l i x) m x) (sym (eqb-true i k e)) ∙ ap (λ (m : ℕ). set (set l m x) i x) (eqb-true i k e)
      go false e = set_comm l i k x x (eqb-false i k e)

  masked_set : (j m n at : ℕ) (l : List ℕ) (k : ℕ) → masked_from j m x n at (set l k x) ≡ set (masked_from j m x n at l) k x
  unfolding masked_from
  masked_set j m zero at l k = refl
  masked_set j m (suc n) at l k =
      ap (λ (r : List ℕ). masked_from (j + 1) m x n (at + 1) r) (go (has_bit m (2 ^ j))) ∙ masked_set (j + 1) m n (at + 1) (cond (has_bit m (2 ^ j)) (set l at x) l) k
    where
      go : (b : Bool) → cond b (set (set l k x) at x) (set l k x) ≡ set (cond b (set l at x) l) k x
      go true = either l k at
      go false = refl

  -- a bit that lies before
  masked_before : (j m n at : ℕ) (l : List ℕ) (k : ℕ) → k < j → masked_from j (bit_or m (2 ^ k)) x n at l ≡ masked_from j m x n at l
  unfolding masked_from
  masked_before j m zero at l k h = refl
  masked_before j m (suc n) at l k h =
      masked_before (j + 1) m n (at + 1) _ k (omega arith)
      ∙ ap (λ (b : Bool). masked_from (j + 1) m x n (at + 1) (cond b (set l at x) l)) (other_bit m k j (λ (e : j ≡ k). omega arith))

  -- one bit more
  pub masked_or : (j m n at : ℕ) (l : List ℕ) (d : ℕ) → d < n → masked_from j (bit_or m (2 ^ (j + d))) x n at l ≡ set (masked_from j m x n at l) (at + d) x
  unfolding masked_from
  masked_or j m zero at l d h = absurd (not-suc-le-zero h)
  masked_or j m (suc n) at l zero h =
      let z : j + 0 ≡ j = omega arith in
      let y : at + 0 ≡ at = omega arith in
      rw (z, y)
      (masked_before (j + 1) m n (at + 1) _ j (omega arith)
      ∙ ap (λ (b : Bool). masked_from (j + 1) m x n (at + 1) (cond b (set l at x) l)) (has_bit_bit (bit_or m (2 ^ j)) j ∙ eq-eqb _ 1 (bit_or_same m j))
      ∙ ap (λ (r : List ℕ). masked_from (j + 1) m x n (at + 1) r) (go (has_bit m (2 ^ j)))
      ∙ masked_set (j + 1) m n (at + 1) (cond (has_bit m (2 ^ j)) (set l at x) l) at)
    where
      go : (b : Bool) → set l at x ≡ set (cond b (set l at x) l) at x
      go true = sym (set-set l at x x)
      go false = refl
  masked_or j m (suc n) at l (suc d) h =
      let e : j + suc d ≡ j + 1 + d = omega arith in
      let y : at + suc d ≡ at + 1 + d = omega arith in
      rw (e, y)
      (ap (λ (b : Bool). masked_from (j + 1) (bit_or m (2 ^ (j + 1 + d))) x n (at + 1) (cond b (set l at x) l)) (other_bit m (j + 1 + d) j (λ (q : j ≡ j + 1 + d). omega arith))
      ∙ masked_or (j + 1) m n (at + 1) (cond (has_bit m (2 ^ j)) (set l at x) l) d (le_of_suc-le-suc h))
