-- "The event ends with no mark": every mark is of a sleeper of the set, and each of them is looked at before a round ends that finishes nobody.
use Prim.Native.Nat.{ℕ, zero, suc, ◌+◌, ◌-◌, ◌/◌, ◌%◌, ◌≤◌, ◌<◌}
use native.Mathlib.Nat.{div-one, not-suc-le-zero}
use native.Mathlib.Omega.{arith}
use mathlib.Core.Path.{◌≡◌, refl, sym, ap, ◌∙◌}
use mathlib.Core.Logic.{◌⊎◌, inl, inr}
use mathlib.Core.Bool.{Bool, true, false, cond}
use mathlib.Core.List.{List, [], ◌∷◌}
use lib.Dec.{eqb}
use lib.Bits.{bit_or}
use lib.Pow.{shr-shr}
use lib.ListN.{length}
use borrow.Author.Tests.{eqb-true, eqb-false, eq-eqb}
use Rattle.model.specs.State.{Table, Sleeper}
use Rattle.model.specs.Marks.{bit_of, mine, marked, unmark, concerned, mask_of, mark_touched}
use Rattle.model.specs.Waking.{World, Round, nobody, finished, could_finish, without, finish, both, passed, quick_round, remark, marks_after, marks_left}
use Rattle.model.proofs.Bits.{bit, bit_lt, bit_zero, bit_or_other, bit_xor_other, bit_xor_same}
use Rattle.model.proofs.MarkLaws.{marked_bit}
use Rattle.model.proofs.CheckLaws.{and_true}
use Rattle.model.proofs.WakingLaws.{finish_length}

-- ---- a mask with no bit on is 0

no_bit : (n m : ℕ) → m ≤ n → ((k : ℕ) → bit m k ≡ 0) → m ≡ 0
no_bit zero m h z = omega arith
no_bit (suc n) m h z =
    let low : m % 2 ≡ 0 = rw (div-one m) at (z 0) in
    let high : m / 2 ≡ 0 = no_bit n (m / 2) (omega arith) (λ k. ap (λ (x : ℕ). x % 2) (shr-shr m 1 k) ∙ z (1 + k)) in
    omega arith

-- ---- whose a bit is

module _ (slot : ℕ) where
  -- the k-th bit is that of a sleeper of the set
  data Sleeps (k : ℕ) : List Sleeper → Type 0 where
    here : {s : Sleeper} {q : List Sleeper} → mine slot s ≡ true → s.process - 1 ≡ k → Sleeps k (s ∷ q)
    there : {s : Sleeper} {q : List Sleeper} → Sleeps k q → Sleeps k (s ∷ q)

  -- every mark is
  abbrev Owned : ℕ → List Sleeper → Type 0
  Owned m q = (k : ℕ) → bit m k ≡ 1 → Sleeps k q

  nobodys : (m : ℕ) → Owned m [] → m ≡ 0
  nobodys m h = no_bit m m (omega arith) (λ k. go k (eqb (bit m k) 1) refl)
    where
      none : (k : ℕ) → Sleeps k [] → ⊥
      none k h = elim h [ ]

      go : (k : ℕ) (b : Bool) → eqb (bit m k) 1 ≡ b → bit m k ≡ 0
      go k true e = absurd (none k (h k (eqb-true (bit m k) 1 e)))
      go k false e = omega (arith, bit_lt m k, eqb-false (bit m k) 1 e)

  -- ---- marking

  mask_owned : (test : Sleeper → Bool) → ((s : Sleeper) → test s ≡ true → mine slot s ≡ true) → (m : ℕ) (q : List Sleeper) (k : ℕ) → bit (mask_of test m q) k ≡ 1 → (bit m k ≡ 1) ⊎ Sleeps k q
  unfolding mask_of
  mask_owned test own m [] k on = inl on
  mask_owned test own m (s ∷ q) k on = go (test s) refl (mask_owned test own (cond (test s) (bit_or m (bit_of s.process)) m) q k on)
    where
      mark : test s ≡ true → (b : Bool) → eqb k (s.process - 1) ≡ b → bit (bit_or m (bit_of s.process)) k ≡ 1 → (bit m k ≡ 1) ⊎ Sleeps k (s ∷ q)
      mark e true ek on = inr (here (own s e) (sym (eqb-true k (s.process - 1) ek)))
      mark e false ek on = inl (sym (bit_or_other m (s.process - 1) k (eqb-false k (s.process - 1) ek)) ∙ on)

      go : (b : Bool) → test s ≡ b → (bit (cond b (bit_or m (bit_of s.process)) m) k ≡ 1) ⊎ Sleeps k q → (bit m k ≡ 1) ⊎ Sleeps k (s ∷ q)
      go b e (inr p) = inr (there p)
      go true e (inl on) = mark e (eqb k (s.process - 1)) refl on
      go false e (inl on) = inl on

  touched_owned : (touched m : ℕ) (q : List Sleeper) → Owned m q → Owned (mark_touched slot touched m q) q
  touched_owned touched m q h k on = go (mask_owned (concerned slot touched) (λ s e. (and_true (mine slot s) _ e).0) m q k on)
    where
      go : (bit m k ≡ 1) ⊎ Sleeps k q → Sleeps k q
      go (inl on) = h k on
      go (inr p) = p

  -- ---- a round

  -- what a round leaves of the marks: none, or those of the sleepers that are left
  data Leaves (q : List Sleeper) (i : ℕ) : Round → Type 0 where
    over : {l m : ℕ} → m ≡ 0 → Leaves q i (nobody l m)
    again : {l m : ℕ} (j : ℕ) → j < length q → Owned m (without q j) → Leaves q i (finished (i + j) l m)

  ahead : (s : Sleeper) (q : List Sleeper) (i : ℕ) (r : Round) → Leaves q (i + 1) r → Leaves (s ∷ q) i r
  unfolding without
  ahead s q i r (over z) = over z
  ahead s q i r (again {l = l} {m = m} j lt o) = let z : i + 1 + j ≡ i + suc j = omega arith in rw z (again {l = l} {m = m} (suc j) (omega arith) (λ k on. there (o k on)))

  module _ (t : Table) where
    round_leaves : (q : List Sleeper) (i l m : ℕ) → Owned m q → Leaves q i (quick_round t slot q i l m)
    unfolding quick_round without unmark
    round_leaves [] i l m h = over (nobodys m h)
    round_leaves (s ∷ q) i l m h = go (mine slot s) refl (marked m s) refl (could_finish t s) (round_leaves q (i + 1))
      where
        -- a mark that is not the sleeper's is of one behind it
        behind : (k : ℕ) → bit m k ≡ 1 → (mine slot s ≡ true → s.process - 1 ≡ k → ⊥) → Sleeps k q
        behind k on not = case (h k on)
          where
            case : Sleeps k (s ∷ q) → Sleeps k q
            case (here e p) = absurd (not e p)
            case (there p) = p

        -- its own mark is off
        off : marked m s ≡ true → Owned (unmark m s) q
        off e k on = by (eqb k (s.process - 1)) refl
          where
            by : (b : Bool) → eqb k (s.process - 1) ≡ b → Sleeps k q
            by true ek =
                let same : k ≡ s.process - 1 = eqb-true k (s.process - 1) ek in
                let was : bit m (s.process - 1) ≡ 1 = eqb-true (bit m (s.process - 1)) 1 (sym (marked_bit m s) ∙ e) in
                absurd (omega (arith, bit_xor_same m (s.process - 1) was, rw same at on))
            by false ek = behind k (sym (bit_xor_other m (s.process - 1) k (eqb-false k (s.process - 1) ek)) ∙ on) (λ e p. eqb-false k (s.process - 1) ek (sym p))

        go : (x : Bool) → mine slot s ≡ x → (y : Bool) → marked m s ≡ y → (z : Bool) → ((l m : ℕ) → Owned m q → Leaves q (i + 1) (quick_round t slot q (i + 1) l m))
            → Leaves (s ∷ q) i (passed (both x y) z i l m (unmark m s) (λ l' m'. quick_round t slot q (i + 1) l' m'))
        go false ex y ey z ih = ahead s q i _ (ih l m (λ k on. behind k on (λ e p. let c : ◌≡◌ {A = ℕ} 0 1 = cc in omega arith)))
        go true ex false ey z ih = ahead s q i _ (ih l m (λ k on. behind k on (λ e p. let c : ◌≡◌ {A = ℕ} 0 1 = cc (sym (marked_bit m s) ∙ ey, eq-eqb (bit m (s.process - 1)) 1 (rw p on)) in omega arith)))
        go true ex true ey false ih = ahead s q i _ (ih (l + 1) (unmark m s) (off ey))
        go true ex true ey true ih = let z : i + 0 ≡ i = omega arith in
            let a : Leaves (s ∷ q) i (finished (i + 0) (l + 1) (unmark m s)) = again {l = l + 1} {m = unmark m s} 0 (omega arith) (off ey) in
            rw z at a

  -- ---- the rule

  rule_unmarked : (n m : ℕ) (w : World) (l : ℕ) → length w.queue ≤ n → Owned m w.queue → marks_left n slot m w l ≡ 0
  unfolding marks_left finish
  rule_unmarked zero m w l hn h = nobodys m (λ k on. gone w.queue hn (h k on))
    where
      gone : {k : ℕ} (q : List Sleeper) → length q ≤ 0 → Sleeps k q → Sleeps k []
      gone [] hn p = p
      gone (s ∷ q) hn p = absurd (not-suc-le-zero hn)
  rule_unmarked (suc n) m w l hn h = go _ (round_leaves w.table w.queue 0 l m h) (rule_unmarked n)
    where
      go : (r : Round) → Leaves w.queue 0 r → ((m : ℕ) (w : World) (l : ℕ) → length w.queue ≤ n → Owned m w.queue → marks_left n slot m w l ≡ 0)
          → marks_after (λ i l' m'. marks_left n slot (remark slot w (finish w i) m') (finish w i) l') r ≡ 0
      go r (over z) ih = z
      go r (again {l = l'} {m = m'} j lt o) ih =
          let z : 0 + j ≡ j = omega arith in
          rw z (ih (remark slot w (finish w j) m') (finish w j) l' (omega (arith, finish_length w j lt)) (touched_owned _ m' (without w.queue j) o))

  -- the quick waking of a set, whatever is touched, ends with no mark
  pub ends_unmarked : (touched : ℕ) (w : World) (l : ℕ) → marks_left (length w.queue) slot (mark_touched slot touched 0 w.queue) w l ≡ 0
  ends_unmarked touched w l =
      rule_unmarked (length w.queue) (mark_touched slot touched 0 w.queue) w l (omega arith)
      (touched_owned touched 0 w.queue (λ k on. absurd (omega (arith, on, bit_zero k))))
