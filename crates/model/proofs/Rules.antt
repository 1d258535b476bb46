-- What the plain and the quick rule have in common: whom they finish, and how often they look.
use Prim.Native.Nat.{ℕ, zero, suc, ◌+◌, ◌≤◌, ◌<◌}
use native.Mathlib.Nat.{not-suc-le-zero, le_of_suc-le-suc}
use native.Mathlib.Omega.{arith}
use mathlib.Core.Path.{◌≡◌, refl}
use mathlib.Core.Bool.{Bool, true, false, cond}
use mathlib.Core.List.{List, [], ◌∷◌}
use lib.ListN.{length, get_or}
use Rattle.model.specs.declared.Engine.{Engine}
use Rattle.model.specs.declared.Engine.TheVariants.{Plain, Quick}
use Rattle.model.specs.State.{Table, Sleeper, no_sleeper}
use Rattle.model.specs.Marks.{mine, marked, unmark, mark_touched}
use Rattle.model.specs.Waking.{World, Ended, Round, nobody, finished, could_finish, without, finish, passed, plain_round, both, quick_round, after_round, plain, remark, quick, Waker, waker}
use Rattle.model.specs.Counts.{count_of}

-- 1 + 2 + .. + n
unfoldable pub sum_to : ℕ → ℕ
sum_to zero = 0
sum_to (suc n) = suc n + sum_to n

sum_to_suc : (n : ℕ) → sum_to (suc n) ≡ suc n + sum_to n
unfolding sum_to
sum_to_suc n = refl

sum_to_ge : (n : ℕ) → n ≤ sum_to n
unfolding sum_to
sum_to_ge zero = omega arith
sum_to_ge (suc n) = omega arith

pub sum_to_mono : (n m : ℕ) → n ≤ m → sum_to n ≤ sum_to m
unfolding sum_to
sum_to_mono zero m h = omega arith
sum_to_mono (suc n) zero h = absurd (not-suc-le-zero h)
sum_to_mono (suc n) (suc m) h = omega (arith, sum_to_mono n m (omega arith))

pub sum_to_add : (n m : ℕ) → sum_to n + sum_to m ≤ sum_to (n + m)
unfolding sum_to
sum_to_add zero m = let e : 0 + m ≡ m = omega arith in rw e (omega arith)
sum_to_add (suc n) m = let e : suc n + m ≡ suc (n + m) = omega arith in rw e (omega (arith, sum_to_add n m))

pub sum_to_7 : sum_to 7 ≡ 28
unfolding sum_to
sum_to_7 = refl

pub sum_to_8 : sum_to 8 ≡ 36
unfolding sum_to
sum_to_8 = refl

-- looks before and after: at most 1 + 2 + .. + n more
pub record Looked (l n l' : ℕ) : Type 0 where
  pub more : l ≤ l'
  pub most : l' ≤ l + sum_to n

-- ---- counting sleepers

module _ (test : Sleeper → Bool) where
  -- a sleeper who passes the test is taken out
  pub count_without : (q : List Sleeper) (i : ℕ) → i < length q → test (get_or q i no_sleeper) ≡ true → suc (count_of test (without q i)) ≡ count_of test q
  unfolding count_of without
  count_without [] i h e = absurd (not-suc-le-zero h)
  count_without (s ∷ q) zero h e = rw e (omega arith)
  count_without (s ∷ q) (suc i) h e = omega (arith, count_without q i (le_of_suc-le-suc h) e)

  pub count_finish : (w : World) (i : ℕ) → i < length w.queue → test (get_or w.queue i no_sleeper) ≡ true → suc (count_of test (finish w i).queue) ≡ count_of test w.queue
  unfolding finish
  count_finish w i h e = count_without w.queue i h e

  pub count_fewer : (q : List Sleeper) (i : ℕ) → count_of test (without q i) ≤ count_of test q
  unfolding count_of without
  count_fewer [] i = omega arith
  count_fewer (s ∷ q) zero = omega arith
  count_fewer (s ∷ q) (suc i) = omega (arith, count_fewer q i)

  pub count_length : (q : List Sleeper) → count_of test q ≤ length q
  unfolding count_of
  count_length [] = omega arith
  count_length (s ∷ q) = go (test s) (count_length q)
    where
      go : (b : Bool) → count_of test q ≤ length q → cond b 1 0 + count_of test q ≤ suc (length q)
      go true h = omega arith
      go false h = omega arith

-- ---- a round: who is looked at, and what a look leaves of the marks, are its parameters

module _ (t : Table) (sees : ℕ → Sleeper → Bool) (off : ℕ → Sleeper → ℕ) where
  unfoldable pub scan : List Sleeper → ℕ → ℕ → ℕ → Round
  scan [] i l m = nobody l m
  scan (s ∷ q) i l m = passed (sees m s) (could_finish t s) i l m (off m s) (λ l' m'. scan q (i + 1) l' m')

passed_alike : (b e : Bool) (i l m m' : ℕ) (r r' : ℕ → ℕ → Round) → ((l m : ℕ) → r l m ≡ r' l m) → passed b e i l m m' r ≡ passed b e i l m m' r'
passed_alike false e i l m m' r r' h = h l m
passed_alike true true i l m m' r r' h = refl
passed_alike true false i l m m' r r' h = h (l + 1) m'

module _ (t : Table) (slot : ℕ) where
  pub plain_scan : (q : List Sleeper) (i l m : ℕ) → plain_round t slot q i l m ≡ scan t (λ m s. mine slot s) (λ m s. m) q i l m
  unfolding plain_round scan
  plain_scan [] i l m = refl
  plain_scan (s ∷ q) i l m = passed_alike (mine slot s) (could_finish t s) i l m m _ _ (λ l m. plain_scan q (i + 1) l m)

  pub quick_scan : (q : List Sleeper) (i l m : ℕ) → quick_round t slot q i l m ≡ scan t (λ m s. both (mine slot s) (marked m s)) unmark q i l m
  unfolding quick_round scan
  quick_scan [] i l m = refl
  quick_scan (s ∷ q) i l m = passed_alike (both (mine slot s) (marked m s)) (could_finish t s) i l m (unmark m s) _ _ (λ l m. quick_scan q (i + 1) l m)

  -- what a round over q from position i on finds: nobody, or a sleeper of the set who could finish; it looks at sleepers of the set only
  pub data Fair (q : List Sleeper) (i l : ℕ) : Round → Type 0 where
    idle : {l' m : ℕ} → l ≤ l' → l' ≤ l + count_of (mine slot) q → Fair q i l (nobody l' m)
    picks : {l' m : ℕ} (j : ℕ) → j < length q → mine slot (get_or q j no_sleeper) ≡ true → could_finish t (get_or q j no_sleeper) ≡ true
        → l ≤ l' → l' ≤ l + count_of (mine slot) q → Fair q i l (finished (i + j) l' m)

  -- a sleeper more in front
  ahead : (s : Sleeper) (q : List Sleeper) (i l n : ℕ) (r : Round) → n ≤ cond (mine slot s) 1 0 → Fair q (i + 1) (l + n) r → Fair (s ∷ q) i l r
  unfolding count_of
  ahead s q i l n r h (idle {l' = l'} {m = m} a b) = idle {l' = l'} {m = m} (omega arith) (omega arith)
  ahead s q i l n r h (picks {l' = l'} {m = m} j lt mi e a b) =
      let z : i + 1 + j ≡ i + suc j = omega arith in
      rw z (picks {l' = l'} {m = m} (suc j) (omega arith) mi e (omega arith) (omega arith))

  module _ (sees : ℕ → Sleeper → Bool) (off : ℕ → Sleeper → ℕ) (own : (m : ℕ) (s : Sleeper) → sees m s ≡ true → mine slot s ≡ true) where
    pub scan_fair : (q : List Sleeper) (i l m : ℕ) → Fair q i l (scan t sees off q i l m)
    unfolding scan count_of
    scan_fair [] i l m = idle {l' = l} {m = m} (omega arith) (omega arith)
    scan_fair (s ∷ q) i l m = go (sees m s) refl (could_finish t s) refl (scan_fair q (i + 1))
      where
        go : (b : Bool) → sees m s ≡ b → (e : Bool) → could_finish t s ≡ e → ((l m : ℕ) → Fair q (i + 1) l (scan t sees off q (i + 1) l m))
            → Fair (s ∷ q) i l (passed b e i l m (off m s) (λ l' m'. scan t sees off q (i + 1) l' m'))
        go false eb e ee ih = ahead s q i l 0 _ (omega arith) (let z : l + 0 ≡ l = omega arith in rw z (ih l m))
        go true eb false ee ih = ahead s q i l 1 _ (rw (own m s eb) (omega arith)) (ih (l + 1) (off m s))
        go true eb true ee ih =
            let z : i + 0 ≡ i = omega arith in
            let p : Fair (s ∷ q) i l (finished (i + 0) (l + 1) (off m s)) =
            picks {l' = l + 1} {m = off m s} 0 (omega arith) (own m s eb) ee (omega arith) (rw (own m s eb) (omega arith)) in
            rw z at p

-- whoever the quick rule looks at is of the set
seen_own : (slot m : ℕ) (s : Sleeper) → both (mine slot s) (marked m s) ≡ true → mine slot s ≡ true
seen_own slot m s e = go (mine slot s) e
  where
    go : (b : Bool) → both b (marked m s) ≡ true → b ≡ true
    go true e = refl
    go false e = e

-- ---- a rule: rounds until one finishes nobody; how the marks change between them is its third parameter

module _ (sees : ℕ → Sleeper → Bool) (off : ℕ → Sleeper → ℕ) (marks : World → World → ℕ → ℕ) where
  unfoldable pub rule : ℕ → ℕ → World → ℕ → Ended
  rule zero m w l = record { world = w; looks = l }
  rule (suc n) m w l = after_round w (λ i l' m'. rule n (marks w (finish w i) m') (finish w i) l') (scan w.table sees off w.queue 0 l m)

after_alike : (w : World) (a a' : ℕ → ℕ → ℕ → Ended) (r : Round) → ((i l m : ℕ) → a i l m ≡ a' i l m) → after_round w a r ≡ after_round w a' r
after_alike w a a' (nobody l m) h = refl
after_alike w a a' (finished i l m) h = h i l m

module _ (slot : ℕ) where
  pub plain_rule : (n : ℕ) (w : World) (l : ℕ) → plain n slot w l ≡ rule (λ m s. mine slot s) (λ m s. m) (λ w w' m. 0) n 0 w l
  unfolding plain rule
  plain_rule zero w l = refl
  plain_rule (suc n) w l = rw (plain_scan w.table slot w.queue 0 l 0) (after_alike w _ _ (scan w.table _ _ w.queue 0 l 0) (λ i l m. plain_rule n (finish w i) l))

  pub quick_rule : (n m : ℕ) (w : World) (l : ℕ) → quick n slot m w l ≡ rule (λ m s. both (mine slot s) (marked m s)) unmark (remark slot) n m w l
  unfolding quick rule
  quick_rule zero m w l = refl
  quick_rule (suc n) m w l =
      rw (quick_scan w.table slot w.queue 0 l m)
      (after_alike w _ _ (scan w.table _ _ w.queue 0 l m) (λ i l m. quick_rule n (remark slot w (finish w i) m) (finish w i) l))

  -- what finishing a sleeper of the set who could finish keeps
  abbrev pub KeptByFinish : (World → Type 0) → Type 0
  KeptByFinish K =
      (w : World) (i : ℕ) → K w → i < length w.queue → mine slot (get_or w.queue i no_sleeper) ≡ true → could_finish w.table (get_or w.queue i no_sleeper) ≡ true
      → K (finish w i)

  module _ (sees : ℕ → Sleeper → Bool) (off : ℕ → Sleeper → ℕ) (marks : World → World → ℕ → ℕ) (own : (m : ℕ) (s : Sleeper) → sees m s ≡ true → mine slot s ≡ true) where
    -- .. the whole rule keeps
    pub rule_keeps : (K : World → Type 0) → KeptByFinish K → (n m : ℕ) (w : World) (l : ℕ) → K w → K (rule sees off marks n m w l).world
    unfolding rule
    rule_keeps K kept zero m w l k = k
    rule_keeps K kept (suc n) m w l k = go _ (scan_fair w.table slot sees off own w.queue 0 l m) (rule_keeps K kept n)
      where
        go : (r : Round) → Fair w.table slot w.queue 0 l r → ((m : ℕ) (w : World) (l : ℕ) → K w → K (rule sees off marks n m w l).world)
            → K (after_round w (λ i l' m'. rule sees off marks n (marks w (finish w i) m') (finish w i) l') r).world
        go r (idle a b) ih = k
        go r (picks {l' = l'} {m = m'} j lt mi e a b) ih =
            let z : 0 + j ≡ j = omega arith in
            rw z (ih (marks w (finish w j) m') (finish w j) l' (kept w j k lt mi e))

    pub rule_looked : (n m : ℕ) (w : World) (l : ℕ) → Looked l (count_of (mine slot) w.queue) (rule sees off marks n m w l).looks
    unfolding rule
    rule_looked zero m w l = record { more = omega arith; most = omega arith }
    rule_looked (suc n) m w l = go _ (scan_fair w.table slot sees off own w.queue 0 l m) (rule_looked n)
      where
        go : (r : Round) → Fair w.table slot w.queue 0 l r
            → ((m : ℕ) (w : World) (l : ℕ) → Looked l (count_of (mine slot) w.queue) (rule sees off marks n m w l).looks)
            → Looked l (count_of (mine slot) w.queue) (after_round w (λ i l' m'. rule sees off marks n (marks w (finish w i) m') (finish w i) l') r).looks
        go r (idle a b) ih = record { more = a; most = omega (arith, sum_to_ge (count_of (mine slot) w.queue)) }
        go r (picks {l' = l'} {m = m'} j lt mi e a b) ih =
            let z : 0 + j ≡ j = omega arith in
            let h : Looked l' (count_of (mine slot) (finish w j).queue) (rule sees off marks n (marks w (finish w j) m') (finish w j) l').looks =
            ih (marks w (finish w j) m') (finish w j) l' in
            let s : sum_to (count_of (mine slot) w.queue) ≡ count_of (mine slot) w.queue + sum_to (count_of (mine slot) (finish w j).queue) =
            rw (← (count_finish (mine slot) w j lt mi)) (sum_to_suc (count_of (mine slot) (finish w j).queue)) in
            rw z (record { more = omega arith; most = omega arith })

module _ (slot n m : ℕ) (w : World) (l : ℕ) where
  pub plain_keeps : (K : World → Type 0) → KeptByFinish slot K → K w → K (plain n slot w l).world
  plain_keeps K kept k = rw (plain_rule slot n w l) (rule_keeps slot _ _ _ (λ m s e. e) K kept n 0 w l k)

  pub quick_keeps : (K : World → Type 0) → KeptByFinish slot K → K w → K (quick n slot m w l).world
  quick_keeps K kept k = rw (quick_rule slot n m w l) (rule_keeps slot _ _ _ (seen_own slot) K kept n m w l k)

  pub plain_looked : Looked l (count_of (mine slot) w.queue) (plain n slot w l).looks
  plain_looked = rw (plain_rule slot n w l) (rule_looked slot _ _ _ (λ m s e. e) n 0 w l)

  pub quick_looked : Looked l (count_of (mine slot) w.queue) (quick n slot m w l).looks
  quick_looked = rw (quick_rule slot n m w l) (rule_looked slot _ _ _ (seen_own slot) n m w l)

-- both wakers
pub record Tame (wake : Waker) : Type 1 where
  pub keeps : (slot touched : ℕ) (w : World) (l : ℕ) (K : World → Type 0) → KeptByFinish slot K → K w → K (wake slot touched w l).world
  pub looked : (slot touched : ℕ) (w : World) (l : ℕ) → Looked l (count_of (mine slot) w.queue) (wake slot touched w l).looks

pub tame : (engine : Engine) → Tame (waker engine)
unfolding waker
tame Plain = record { keeps = λ slot touched w l. plain_keeps slot (length w.queue) 0 w l; looked = λ slot touched w l. plain_looked slot (length w.queue) 0 w l }
tame Quick =
    record {
      keeps = λ slot touched w l. quick_keeps slot (length w.queue) (mark_touched slot touched 0 w.queue) w l;
      looked = λ slot touched w l. quick_looked slot (length w.queue) (mark_touched slot touched 0 w.queue) w l;
    }
