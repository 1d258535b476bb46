-- Parts of lists: parts that were pasted, one behind the other, and read again.
use Prim.Native.Nat.{ℕ, zero, suc, ◌+◌, ◌≤◌}
use native.Mathlib.Omega.{arith}
use mathlib.Core.Path.{◌≡◌, refl, sym, ap, ◌∙◌}
use mathlib.Core.List.{List, ◌∷◌, ◌++◌, append_assoc}
use lib.ListN.{length, take, drop, replicate, take-append-drop}
use lib.Seq.{slice, paste, take_all, take-take, take-add, take-paste, drop-paste, drop-drop, drop_at, length-take-le, length-paste}

module _ {A : Type 0} where
  -- so many from a place on, by `slice`
  pub part_slice : (n : ℕ) (l : List A) (b : ℕ) → b ≤ length l → take n (drop b l) ≡ slice b (b + n) l
  part_slice n l b h = sym (rw take-add (drop_at (take b l) (take n (drop b l)) b (length-take-le b l h)))

  -- a part of a slice
  pub slice_part : (b w n m at : ℕ) (l : List A) → b + w ≤ length l → n + m ≤ w → at ≡ b + n → take m (drop n (slice b (b + w) l)) ≡ slice at (at + m) l
  slice_part b w n m at l h k e =
      ap (λ (r : List A). take m r) (drop-drop n b (take (b + w) l))
      ∙ part_slice m (take (b + w) l) (b + n) (omega (arith, length-take-le (b + w) l h))
      ∙ ap (λ (r : List A). drop (b + n) r) (take-take (b + n + m) (b + w) l (omega arith))
      ∙ ap (λ (i : ℕ). slice i (i + m) l) (sym e)

  module _ (l : List A) (b : ℕ) (s : List A) (n : ℕ) (h : b + n ≤ length l) where
    -- what was pasted
    pub slice_pasted : length s ≡ n → slice b (b + n) (paste l b s n) ≡ s
    slice_pasted e =
        ap (λ (r : List A). drop b r) (take-paste l b s n (omega arith) (omega arith))
        ∙ drop_at (take b l) (take n s) b (length-take-le b l (omega arith))
        ∙ take_all n s (omega arith)

    module _ (k : n ≤ length s) (m at : ℕ) (e : at ≡ b + n) where
      -- what lies behind it
      pub slice_behind : slice at (at + m) (paste l b s n) ≡ slice at (at + m) l
      slice_behind =
          rw e
          (sym (part_slice m (paste l b s n) (b + n) (omega (arith, length-paste l b s n h k)))
          ∙ ap (λ (r : List A). take m r) (drop-paste l b s n (omega arith) k)
          ∙ part_slice m l (b + n) h)

      -- a paste behind a paste is one paste, if it goes on where the first one stopped
      pub paste_behind : (s' : List A) (n' : ℕ) → n' ≡ n + m → take m s' ≡ take m (drop n s) → paste (paste l b s n) at s' m ≡ paste l b s n'
      paste_behind s' n' f g =
          let z : b + (n + m) ≡ b + n + m = omega arith in
          let d : drop (b + n + m) (paste l b s n) ≡ drop (b + n + m) l =
          sym (drop-drop m (b + n) (paste l b s n)) ∙ ap (λ (r : List A). drop m r) (drop-paste l b s n (omega arith) k) ∙ drop-drop m (b + n) l in
          rw (e, f, take-paste l b s n (omega arith) k, d, g, z, take-add n m s)
          (ap (λ (r : List A). r ++ drop (b + n + m) l) (append_assoc (take b l) (take n s) (take m (drop n s))))

  -- a list pasted into itself
  pub paste_same : (l : List A) (b n : ℕ) → b + n ≤ length l → paste l b (slice b (b + n) l) n ≡ l
  paste_same l b n h =
      rw (← part_slice n l b (omega arith), take-take n n (drop b l) (omega arith), ← take-add b n l) (take-append-drop (b + n) l)

  -- a part of equal elements
  pub same_part : (x : A) (w n m : ℕ) → n + m ≤ w → replicate m x ≡ take m (drop n (replicate w x))
  same_part x w zero zero h = refl
  same_part x zero zero (suc m) h = absurd (omega (arith, h))
  same_part x (suc w) zero (suc m) h = ap (λ (r : List A). x ∷ r) (same_part x w zero m (omega arith))
  same_part x zero (suc n) m h = absurd (omega (arith, h))
  same_part x (suc w) (suc n) m h = same_part x w n m (omega arith)
