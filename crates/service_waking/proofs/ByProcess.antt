-- Masks by process: a mask gathered over the processes 1 to 8, one after the other, is the mask gathered over the queue in its
-- order.
use Prim.Native.Nat.{ℕ, zero, suc, ◌+◌, ◌*◌, ◌-◌, ◌/◌, ◌%◌, ◌^◌, max, ◌≤◌, ◌<◌}
use native.Mathlib.Omega.{arith}
use native.Mathlib.Nat.{one-mul, mod-eq_of_lt}
use mathlib.Core.Path.{◌≡◌, refl, sym, ap, ap₂, ◌∙◌}
use mathlib.Core.Logic.{◌≢◌}
use mathlib.Core.Bool.{Bool, true, false, cond, ◌&&◌}
use mathlib.Core.List.{List, [], ◌∷◌}
use lib.Dec.{eqb, leb}
use lib.Pow.{pow-lt}
use lib.Bits.{bit_or, or_step, or_shr, or_zero_r}
use lib.ListN.{get_or}
use borrow.Author.Tests.{eqb-true, eqb-false, leb-true, leb-false, le-leb, lt-leb}
use Rattle.model.specs.Limits.{processes}
use Rattle.model.specs.State.{Sleeper}
use Rattle.model.specs.Operation.{has_bit}
use Rattle.model.specs.Marks.{bit_of, mask_of}
use Rattle.model.specs.Runs.{All, none, also}
use Rattle.model.specs.Invariant.{Distinct}
use Rattle.model.proofs.Bits.{bit, bit_zero, bit_or_other, has_bit_bit}
use Rattle.model.proofs.Lists.{all_map}
use Rattle.model.proofs.QueueLaws.{others_first, distinct_rest}
use Rattle.host.specs.Parts.{Row, Part}
use Rattle.host.specs.Holding.{of_process, by_process, with_queue, entry, queue_in}
use Rattle.host.specs.Queue.{Room, QueueHeld}
use Rattle.host.proofs.ProcessLaws.{of_process_lem}
use Rattle.host.proofs.QueueRows.{entry_is}

-- `1u8 << i`
pub shifted : (i : ℕ) → i < 8 → 1 * 2 ^ i % 256 ≡ 2 ^ i
shifted i h = rw one-mul (mod-eq_of_lt (pow-lt {i = i} {j = 8} h))

-- ---- numbers

-- bits go in in any order
or_swap : (a b c : ℕ) → bit_or (bit_or a b) c ≡ bit_or (bit_or a c) b
or_swap a b c = go (a + b + c) a b c (omega arith) (omega arith) (omega arith)
  where
    go : (n a b c : ℕ) → a ≤ n → b ≤ n → c ≤ n → bit_or (bit_or a b) c ≡ bit_or (bit_or a c) b
    go zero a b c ha hb hc =
        let ea : a ≡ 0 = omega arith in
        let eb : b ≡ 0 = omega arith in
        let ec : c ≡ 0 = omega arith in
        rw (ea, eb, ec)
    go (suc n) a b c ha hb hc =
        let ih : bit_or (bit_or (a / 2) (b / 2)) (c / 2) ≡ bit_or (bit_or (a / 2) (c / 2)) (b / 2) = go n (a / 2) (b / 2) (c / 2) (omega arith) (omega arith) (omega arith) in
        let low : max (max (a % 2) (b % 2)) (c % 2) ≡ max (max (a % 2) (c % 2)) (b % 2) = omega arith in
        by_halves a b c ∙ ap₂ (λ (x y : ℕ). x * 2 + y) ih low ∙ sym (by_halves a c b)
      where
        half : (a b : ℕ) → bit_or a b / 2 ≡ bit_or (a / 2) (b / 2)
        half a b = or_shr a b 1

        last : (a b : ℕ) → bit_or a b % 2 ≡ max (a % 2) (b % 2)
        last a b = omega (arith, or_step a b, half a b)

        by_halves : (a b c : ℕ) → bit_or (bit_or a b) c ≡ bit_or (bit_or (a / 2) (b / 2)) (c / 2) * 2 + max (max (a % 2) (b % 2)) (c % 2)
        by_halves a b c = or_step (bit_or a b) c ∙ ap₂ (λ (x y : ℕ). bit_or x (c / 2) * 2 + max y (c % 2)) (half a b) (last a b)

next_or_not : (p n : ℕ) → p ≢ n + 1 → leb p (n + 1) ≡ leb p n
next_or_not p n h = go (leb p n) refl
  where
    go : (b : Bool) → leb p n ≡ b → leb p (n + 1) ≡ b
    go true e = le-leb p (n + 1) (omega (arith, leb-true p n e))
    go false e = lt-leb p (n + 1) (omega (arith, leb-false p n e, h))

-- ---- the mask over a queue

module _ (test : Sleeper → Bool) where
  -- a bit that was in before
  mask_or : (m x : ℕ) (q : List Sleeper) → mask_of test (bit_or m x) q ≡ bit_or (mask_of test m q) x
  unfolding mask_of
  mask_or m x [] = refl
  mask_or m x (s ∷ q) = ap (λ (k : ℕ). mask_of test k q) (go (test s)) ∙ mask_or (cond (test s) (bit_or m (bit_of s.process)) m) x q
    where
      go : (b : Bool) → cond b (bit_or (bit_or m x) (bit_of s.process)) (bit_or m x) ≡ bit_or (cond b (bit_or m (bit_of s.process)) m) x
      go true = or_swap m x (bit_of s.process)
      go false = refl

  -- nobody passes
  mask_none : (m : ℕ) {q : List Sleeper} → All (λ (s : Sleeper). test s ≡ false) q → mask_of test m q ≡ m
  unfolding mask_of
  mask_none m none = refl
  mask_none m (also h t) = rw h (mask_none m t)

  -- another test that says the same of everybody
  mask_same : (other : Sleeper → Bool) (m : ℕ) {q : List Sleeper} → All (λ (s : Sleeper). test s ≡ other s) q → mask_of test m q ≡ mask_of other m q
  unfolding mask_of
  mask_same other m none = refl
  mask_same other m (also {x = s} h t) = rw h (mask_same other (cond (other s) (bit_or m (bit_of s.process)) m) t)

  -- the mask and one more
  abbrev with_one : ℕ → Sleeper → ℕ
  with_one m s = cond (test s) (bit_or m (bit_of s.process)) m

-- ---- the processes to n alone

module _ (test : Sleeper → Bool) where
  abbrev pub up_to : ℕ → Sleeper → Bool
  up_to n s = leb s.process n && test s

  -- the mask, and in it the sleeper if it passes
  abbrev with_next : ℕ → ℕ → Sleeper → ℕ
  with_next n m s = with_one (up_to n) m s

  -- one process more: the bit of the sleeper that is of it
  pub mask_next : (n m : ℕ) (q : List Sleeper) → Distinct q → mask_of (up_to (n + 1)) m q ≡ bit_or (mask_of (up_to n) m q) (cond (of_process false test (n + 1) q) (2 ^ n) 0)
  unfolding mask_of of_process
  mask_next n m [] d = sym (or_zero_r m)
  mask_next n m (s ∷ q) d = go (eqb s.process (n + 1)) refl (mask_next n (with_next n m s) q (distinct_rest d))
    where
      into : (b : Bool) → mask_of (up_to n) (cond b (bit_or m (2 ^ n)) m) q ≡ bit_or (mask_of (up_to n) m q) (cond b (2 ^ n) 0)
      into true = mask_or (up_to n) m (2 ^ n) q
      into false = sym (or_zero_r (mask_of (up_to n) m q))

      -- nobody behind it is of its process
      here : s.process ≡ n + 1 → mask_of (up_to (n + 1)) (with_next (n + 1) m s) q ≡ bit_or (mask_of (up_to n) (with_next n m s) q) (cond (test s) (2 ^ n) 0)
      here p =
          let k : s.process - 1 ≡ n = omega arith in
          rw (le-leb s.process (n + 1) (omega arith), lt-leb s.process n (omega arith), k)
          (mask_same (up_to (n + 1)) (up_to n) (cond (test s) (bit_or m (2 ^ n)) m)
          (all_map (λ x o. ap (λ (b : Bool). b && test x) (next_or_not x.process n (λ e. o (e ∙ sym p)))) (others_first d))
          ∙ into (test s))

      go : (b : Bool) → eqb s.process (n + 1) ≡ b
          → mask_of (up_to (n + 1)) (with_next n m s) q ≡ bit_or (mask_of (up_to n) (with_next n m s) q) (cond (of_process false test (n + 1) q) (2 ^ n) 0)
          → mask_of (up_to (n + 1)) (with_next (n + 1) m s) q ≡ bit_or (mask_of (up_to n) (with_next n m s) q) (cond (cond b (test s) (of_process false test (n + 1) q)) (2 ^ n) 0)
      go true e ih = here (eqb-true s.process (n + 1) e)
      go false e ih = rw (next_or_not s.process n (eqb-false s.process (n + 1) e)) ih

  -- nobody is of process 0, and everybody of one to 8
  pub mask_start : (m : ℕ) {q : List Sleeper} → All Room q → mask_of (up_to 0) m q ≡ m
  mask_start m f = mask_none (up_to 0) m (all_map (λ s r. ap (λ (b : Bool). b && test s) (lt-leb s.process 0 (omega (arith, r.process)))) f)

  pub mask_end : (n m : ℕ) {q : List Sleeper} → All Room q → processes ≤ n → mask_of (up_to n) m q ≡ mask_of test m q
  mask_end n m f l = mask_same (up_to n) test m (all_map (λ s r. ap (λ (b : Bool). b && test s) (le-leb s.process n (omega (arith, r.last)))) f)

  -- the next process is not among them yet
  lacks : (n m : ℕ) → bit m n ≡ 0 → {q : List Sleeper} → All Room q → bit (mask_of (up_to n) m q) n ≡ 0
  unfolding mask_of
  lacks n m h none = h
  lacks n m h (also {x = s} r t) = lacks n (with_next n m s) (go (leb s.process n) refl (test s)) t
    where
      go : (b : Bool) → leb s.process n ≡ b → (c : Bool) → bit (cond (b && c) (bit_or m (bit_of s.process)) m) n ≡ 0
      go true e true = let l : s.process ≤ n = leb-true s.process n e in bit_or_other m (s.process - 1) n (λ z. omega (arith, z, l, r.process)) ∙ h
      go true e false = h
      go false e c = h

  pub mask_lacks : (n : ℕ) {q : List Sleeper} → All Room q → has_bit (mask_of (up_to n) 0 q) (2 ^ n) ≡ false
  mask_lacks n {q} f = has_bit_bit (mask_of (up_to n) 0 q) n ∙ ap (λ (x : ℕ). eqb x 1) (lacks n 0 (bit_zero n) f)

-- what stands at the next process in a part by process
pub by_next : {r : Row} → QueueHeld r → (p : Part) (f : Sleeper → ℕ) (n : ℕ) → with_queue r (queue_in r) p ≡ by_process f processes 1 (queue_in r) → n < processes
    → get_or (r p) (entry (n + 1)) 0 ≡ of_process 0 f (n + 1) (queue_in r)
by_next {r} k p f n e l =
    rw (entry_is (n + 1) (omega arith))
    (ap (λ (x : Row). get_or (x p) (n + 1 - 1) 0) k.holds
    ∙ ap (λ (x : List ℕ). get_or x (n + 1 - 1) 0) e
    ∙ of_process_lem f (queue_in r) (n + 1) (omega arith) (omega arith))
