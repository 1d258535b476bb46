-- Masks of processes and of semaphores: who is marked, what is named, which values differ.
use Prim.Native.Nat.{ℕ, zero, suc, ◌+◌, ◌-◌, ◌^◌, ◌≤◌, ◌<◌}
use native.Mathlib.Nat.{suc_inj, suc-ne-zero}
use native.Mathlib.Omega.{arith}
use native.Mathlib.Decide.{dec_lt}
use mathlib.Core.Path.{◌≡◌, refl, sym, ap, ◌∙◌}
use mathlib.Core.Bool.{Bool, true, false, cond}
use mathlib.Core.List.{List, [], ◌∷◌}
use lib.Dec.{eqb}
use lib.Bits.{bit_or}
use lib.ListN.{length, get_or}
use borrow.Author.Tests.{eqb-true, eq-eqb}
use Rattle.model.specs.declared.Operation.{Operation}
use Rattle.model.specs.State.{Sleeper}
use Rattle.model.specs.Operation.{operations_of, has_bit}
use Rattle.model.specs.Marks.{bit_of, marked, unmark, named_by, named, differing, every_number, mask_of}
use Rattle.model.specs.Runs.{All, none, also}
use Rattle.model.proofs.Lists.{all_map}
use Rattle.model.specs.Invariant.{Other}
use Rattle.model.proofs.Bits.{bit, bit_or_same, bit_or_keeps, bit_xor_other, has_bit_bit, has_bit_none}

-- ---- marks

pub marked_bit : (m : ℕ) (s : Sleeper) → marked m s ≡ eqb (bit m (s.process - 1)) 1
unfolding marked
marked_bit m s = has_bit_bit m (s.process - 1)

pub unmark_other : (m : ℕ) (p q : Sleeper) → 1 ≤ p.process → 1 ≤ q.process → Other p q → marked (unmark m p) q ≡ marked m q
unfolding unmark
unmark_other m p q hp hq o =
    marked_bit (unmark m p) q
    ∙ ap (λ (x : ℕ). eqb x 1) (bit_xor_other m (p.process - 1) (q.process - 1) (λ e. o (omega arith)))
    ∙ sym (marked_bit m q)

mark_same : (m : ℕ) (s : Sleeper) → marked (bit_or m (bit_of s.process)) s ≡ true
mark_same m s = marked_bit _ s ∙ eq-eqb _ 1 (bit_or_same m (s.process - 1))

mark_keeps : (m n : ℕ) (s : Sleeper) → marked m s ≡ true → marked (bit_or m n) s ≡ true
mark_keeps m n s h = marked_bit _ s ∙ eq-eqb _ 1 (bit_or_keeps m n (s.process - 1) (eqb-true (bit m (s.process - 1)) 1 (sym (marked_bit m s) ∙ h)))

-- a test that is kept, and fails afterwards, failed before
unkept : (x y : Bool) → (x ≡ true → y ≡ true) → y ≡ false → x ≡ false
unkept false y f e = refl
unkept true y f e = sym (f refl) ∙ e

module _ (test : Sleeper → Bool) where
  abbrev with_one : ℕ → Sleeper → ℕ
  with_one m s = cond (test s) (bit_or m (bit_of s.process)) m

  one_keeps : (m : ℕ) (s q : Sleeper) → marked m q ≡ true → marked (with_one m s) q ≡ true
  one_keeps m s q h = go (test s)
    where
      go : (b : Bool) → marked (cond b (bit_or m (bit_of s.process)) m) q ≡ true
      go true = mark_keeps m (bit_of s.process) q h
      go false = h

  mask_keeps : (m : ℕ) (q : List Sleeper) (s : Sleeper) → marked m s ≡ true → marked (mask_of test m q) s ≡ true
  unfolding mask_of
  mask_keeps m [] s h = h
  mask_keeps m (p ∷ q) s h = mask_keeps (with_one m p) q s (one_keeps m p s h)

  -- who is not marked afterwards was not before, and fails the test
  pub record Unmarked (m : ℕ) (s : Sleeper) : Type 0 where
    pub before : marked m s ≡ false
    pub fails : test s ≡ false

  pub mask_all : (m : ℕ) (q : List Sleeper) → All (λ (s : Sleeper). marked (mask_of test m q) s ≡ false → Unmarked m s) q
  unfolding mask_of
  mask_all m [] = none
  mask_all m (p ∷ q) = also here (all_map back (mask_all (with_one m p) q))
    where
      here : marked (mask_of test (with_one m p) q) p ≡ false → Unmarked m p
      here un =
          let un' : marked (with_one m p) p ≡ false = unkept (marked (with_one m p) p) _ (mask_keeps (with_one m p) q p) un in
          record {
            before = unkept (marked m p) _ (one_keeps m p p) un';
            fails = unkept (test p) (marked (with_one m p) p) (λ e. rw e (mark_same m p)) un';
          }

      back : (s : Sleeper) → (marked (mask_of test (with_one m p) q) s ≡ false → Unmarked (with_one m p) s) → marked (mask_of test (with_one m p) q) s ≡ false → Unmarked m s
      back s g un = record { before = unkept (marked m s) _ (one_keeps m p s) (g un).before; fails = (g un).fails }

-- ---- named semaphores

named_keeps : (m : ℕ) (os : List Operation) (k : ℕ) → bit m k ≡ 1 → bit (named_by m os) k ≡ 1
unfolding named_by
named_keeps m [] k h = h
named_keeps m (o ∷ os) k h = named_keeps (bit_or m (2 ^ o.number)) os k (bit_or_keeps m (2 ^ o.number) k h)

pub named_all : (m : ℕ) (os : List Operation) → All (λ (o : Operation). bit (named_by m os) o.number ≡ 1) os
unfolding named_by
named_all m [] = none
named_all m (o ∷ os) = also (named_keeps (bit_or m (2 ^ o.number)) os o.number (bit_or_same m o.number)) (named_all (bit_or m (2 ^ o.number)) os)

-- an array that names no touched semaphore
pub untouched : (s : Sleeper) (touched : ℕ) → has_bit (named s) touched ≡ false → All (λ (o : Operation). bit touched o.number ≡ 0) (operations_of s.array)
untouched s touched h = all_map (λ o e. has_bit_none (named s) touched o.number h e) (named_all 0 (operations_of s.array))

-- ---- every number of a set

pub every_bit : (count n : ℕ) → n < count → bit (every_number count) n ≡ 1
unfolding every_number
every_bit zero n h = absurd (omega arith)
every_bit (suc count) n h = go (dec_lt n count) (every_bit count n)
  where
    go : Dec (n < count) → (n < count → bit (every_number count) n ≡ 1) → bit (bit_or (every_number count) (2 ^ count)) n ≡ 1
    go (yes lt) before = bit_or_keeps (every_number count) (2 ^ count) n (before lt)
    go (no ge) before = let e : n ≡ count = omega arith in rw e (bit_or_same (every_number count) count)

-- ---- values that differ

differing_keeps : (m i : ℕ) (xs ys : List ℕ) (k : ℕ) → bit m k ≡ 1 → bit (differing m i xs ys) k ≡ 1
unfolding differing
differing_keeps m i [] ys k h = h
differing_keeps m i (x ∷ xs) [] k h = h
differing_keeps m i (x ∷ xs) (y ∷ ys) k h = differing_keeps (cond (eqb x y) m (bit_or m (2 ^ i))) (i + 1) xs ys k (go (eqb x y))
  where
    go : (b : Bool) → bit (cond b m (bit_or m (2 ^ i))) k ≡ 1
    go true = h
    go false = bit_or_keeps m (2 ^ i) k h

-- where the bit is off, the values are the same
pub differing_off : (m i : ℕ) (xs ys : List ℕ) (j : ℕ) → length xs ≡ length ys → bit (differing m i xs ys) (i + j) ≡ 0 → get_or xs j 0 ≡ get_or ys j 0
unfolding differing
differing_off m i [] [] j e h = refl
differing_off m i [] (y ∷ ys) j e h = absurd (suc-ne-zero (length ys) (sym e))
differing_off m i (x ∷ xs) [] j e h = absurd (suc-ne-zero (length xs) e)
differing_off m i (x ∷ xs) (y ∷ ys) zero e h = go (eqb x y) refl h
  where
    go : (b : Bool) → eqb x y ≡ b → bit (differing (cond b m (bit_or m (2 ^ i))) (i + 1) xs ys) (i + 0) ≡ 0 → x ≡ y
    go true eb h = eqb-true x y eb
    go false eb h =
        let z : i + 0 ≡ i = omega arith in
        let on : bit (differing (bit_or m (2 ^ i)) (i + 1) xs ys) i ≡ 1 = differing_keeps (bit_or m (2 ^ i)) (i + 1) xs ys i (bit_or_same m i) in
        let off : bit (differing (bit_or m (2 ^ i)) (i + 1) xs ys) i ≡ 0 = rw z at h in
        absurd (omega arith)
differing_off m i (x ∷ xs) (y ∷ ys) (suc j) e h =
    let z : i + suc j ≡ i + 1 + j = omega arith in
    differing_off (cond (eqb x y) m (bit_or m (2 ^ i))) (i + 1) xs ys j (suc_inj e) (rw z at h)
