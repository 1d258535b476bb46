-- The queue: sleepers of different processes, taken out, kept, and put at its end; there are at most eight.
use Prim.Native.Nat.{ℕ, zero, suc, ◌+◌, ◌≤◌, ◌<◌}
use native.Mathlib.Nat.{not-suc-le-zero, le_of_suc-le-suc}
use native.Mathlib.Omega.{arith}
use mathlib.Core.Path.{◌≡◌, refl, sym, ◌∙◌}
use mathlib.Core.Logic.{◌≢◌}
use mathlib.Core.Bool.{Bool, true, false, cond, not, ◌||◌}
use mathlib.Core.List.{List, [], ◌∷◌, ◌++◌}
use lib.Dec.{eqb}
use lib.ListN.{length, get_or, length-append}
use lib.IntN.{ℤ}
use borrow.Author.Tests.{eqb-true, eqb-false, not-true}
use Rattle.model.specs.declared.Set.{Set}
use Rattle.model.specs.Limits.{processes}
use Rattle.model.specs.State.{Sleeper, State, no_sleeper}
use Rattle.model.specs.Waking.{without, waking}
use Rattle.model.specs.Checks.{asleep}
use Rattle.model.specs.Events.{keep, ended_with, not_of}
use Rattle.model.specs.Runs.{All, none, also}
use Rattle.model.proofs.Lists.{first, rest, all_map, all_zip, all_at, all_append, all_without}
use Rattle.model.specs.Invariant.{Fits, Other, Distinct, alone, apart, Invariant}
use Rattle.std.specs.Prelude.{None}

pub others_first : {s : Sleeper} {q : List Sleeper} → Distinct (s ∷ q) → All (Other s) q
others_first (apart h t) = h

pub distinct_rest : {s : Sleeper} {q : List Sleeper} → Distinct (s ∷ q) → Distinct q
distinct_rest (apart h t) = t

-- ---- one is taken out

pub distinct_without : (q : List Sleeper) (i : ℕ) → Distinct q → Distinct (without q i)
unfolding without
distinct_without [] i d = alone
distinct_without (s ∷ q) zero d = distinct_rest d
distinct_without (s ∷ q) (suc i) d = apart (all_without q i (others_first d)) (distinct_without q i (distinct_rest d))

-- all others are of other processes
pub others_without : (q : List Sleeper) (i : ℕ) → i < length q → Distinct q → All (Other (get_or q i no_sleeper)) (without q i)
unfolding without
others_without [] i h d = absurd (not-suc-le-zero h)
others_without (s ∷ q) zero h d = others_first d
others_without (s ∷ q) (suc i) h d =
    also (λ e. all_at q i no_sleeper (others_first d) (le_of_suc-le-suc h) (sym e)) (others_without q i (le_of_suc-le-suc h) (distinct_rest d))

-- ---- one goes to sleep

-- a process that is not asleep is none of the queue's
pub awake : (p : ℕ) (q : List Sleeper) → asleep p q ≡ false → All (λ (s : Sleeper). s.process ≢ p) q
unfolding asleep
awake p [] e = none
awake p (s ∷ q) e = go (eqb s.process p) refl e (awake p q)
  where
    go : (b : Bool) → eqb s.process p ≡ b → b || asleep p q ≡ false → (asleep p q ≡ false → All (λ (s : Sleeper). s.process ≢ p) q)
        → All (λ (s : Sleeper). s.process ≢ p) (s ∷ q)
    go false eb h ih = also (eqb-false s.process p eb) (ih h)
    go true eb h ih = let z : ◌≡◌ {A = ℕ} 0 1 = cc in absurd (omega arith)

pub distinct_snoc : (q : List Sleeper) (s : Sleeper) → Distinct q → All (Other s) q → Distinct (q ++ s ∷ [])
distinct_snoc [] s d o = apart none alone
distinct_snoc (x ∷ q) s d o =
    apart (all_append q (s ∷ []) (others_first d) (also (λ e. first o (sym e)) none)) (distinct_snoc q s (distinct_rest d) (rest o))

-- ---- those who pass a test stay

module _ (test : Sleeper → Bool) where
  pub keep_all : {P : Sleeper → Type 0} (q : List Sleeper) → All P q → All P (keep test q)
  unfolding keep
  keep_all [] h = none
  keep_all {P} (s ∷ q) h = go (test s) (keep_all q (rest h))
    where
      go : (b : Bool) → All P (keep test q) → All P (cond b (s ∷ keep test q) (keep test q))
      go true r = also (first h) r
      go false r = r

  pub keep_test : (q : List Sleeper) → All (λ (s : Sleeper). test s ≡ true) (keep test q)
  unfolding keep
  keep_test [] = none
  keep_test (s ∷ q) = go (test s) refl (keep_test q)
    where
      go : (b : Bool) → test s ≡ b → All (λ (s : Sleeper). test s ≡ true) (keep test q) → All (λ (s : Sleeper). test s ≡ true) (cond b (s ∷ keep test q) (keep test q))
      go true e r = also e r
      go false e r = r

  pub keep_distinct : (q : List Sleeper) → Distinct q → Distinct (keep test q)
  unfolding keep
  keep_distinct [] d = alone
  keep_distinct (s ∷ q) d = go (test s) (keep_distinct q (distinct_rest d))
    where
      go : (b : Bool) → Distinct (keep test q) → Distinct (cond b (s ∷ keep test q) (keep test q))
      go true r = apart (keep_all q (others_first d)) r
      go false r = r

  -- whoever is not kept is ended
  pub keep_ended : (code : ℤ) (q : List Sleeper) → length (keep (λ s. not (test s)) q) + length (ended_with code test q) ≡ length q
  unfolding keep ended_with
  keep_ended code [] = refl
  keep_ended code (s ∷ q) = go (test s) (keep_ended code q)
    where
      go : (b : Bool) → length (keep (λ s. not (test s)) q) + length (ended_with code test q) ≡ length q
          → length (cond (not b) (s ∷ keep (λ s. not (test s)) q) (keep (λ s. not (test s)) q)) + length (cond b (waking s.process code None ∷ ended_with code test q) (ended_with code test q)) ≡ suc (length q)
      go true r = omega arith
      go false r = omega arith

  pub keep_length : (q : List Sleeper) → length (keep test q) ≤ length q
  unfolding keep
  keep_length [] = omega arith
  keep_length (s ∷ q) = go (test s) (keep_length q)
    where
      go : (b : Bool) → length (keep test q) ≤ length q → length (cond b (s ∷ keep test q) (keep test q)) ≤ suc (length q)
      go true r = omega arith
      go false r = omega arith

-- ---- at most n sleepers, if their processes are 1 to n

-- one at most is of a process
keep_others : (p : ℕ) (q : List Sleeper) → Distinct q → length q ≤ suc (length (keep (not_of p) q))
unfolding keep
keep_others p [] d = omega arith
keep_others p (s ∷ q) d = go (eqb s.process p) refl (keep_others p q (distinct_rest d))
  where
    all_stay : s.process ≡ p → (r : List Sleeper) → All (Other s) r → length r ≤ length (keep (not_of p) r)
    all_stay e [] o = omega arith
    all_stay e (x ∷ r) o = here (eqb x.process p) refl (all_stay e r (rest o))
      where
        here : (b : Bool) → eqb x.process p ≡ b → length r ≤ length (keep (not_of p) r) → suc (length r) ≤ length (cond (not b) (x ∷ keep (not_of p) r) (keep (not_of p) r))
        here false eb h = omega arith
        here true eb h = absurd (first o (eqb-true x.process p eb ∙ sym e))

    go : (b : Bool) → eqb s.process p ≡ b → length q ≤ suc (length (keep (not_of p) q))
        → suc (length q) ≤ suc (length (cond (not b) (s ∷ keep (not_of p) q) (keep (not_of p) q)))
    go false eb h = omega arith
    go true eb h = omega (arith, all_stay (eqb-true s.process p eb) q (others_first d))

abbrev Among : ℕ → Sleeper → Type 0
Among n s = (1 ≤ s.process) × (s.process ≤ n)

pigeons : (n : ℕ) (q : List Sleeper) → Distinct q → All (Among n) q → length q ≤ n
pigeons zero [] d h = omega arith
pigeons zero (s ∷ q) d h = absurd (omega (arith, (first h).0, (first h).1))
pigeons (suc n) q d h =
    omega (
      arith,
      keep_others (suc n) q d,
      pigeons n (keep (not_of (suc n)) q) (keep_distinct (not_of (suc n)) q d) (all_zip below (keep_all (not_of (suc n)) q h) (keep_test (not_of (suc n)) q)),
    )
  where
    below : (s : Sleeper) → Among (suc n) s → not_of (suc n) s ≡ true → Among n s
    below s a e = (a.0, omega (arith, a.1, eqb-false s.process (suc n) (not-true _ e)))

pub fits_few : {sets : List Set} (q : List Sleeper) → All (Fits sets) q → Distinct q → length q ≤ processes
fits_few q f d = pigeons processes q d (all_map (λ s k. (k.process, k.last)) f)

pub few : (s : State) → Invariant s → length s.queue ≤ processes
few s i = fits_few s.queue i.fits i.distinct

-- fewer, while one of the processes is awake
pub fewer_awake : {sets : List Set} (p : ℕ) (q : List Sleeper) → 1 ≤ p → p ≤ processes → All (λ (s : Sleeper). s.process ≢ p) q → All (Fits sets) q → Distinct q → length q < processes
fewer_awake p q some last o f d =
    omega (
      arith,
      length-append q (caller ∷ []),
      pigeons processes (q ++ caller ∷ []) (distinct_snoc q caller d o) (all_append q (caller ∷ []) (all_map (λ s k. (k.process, k.last)) f) (also (some, last) none)),
    )
  where
    caller : Sleeper
    caller = record { process = p; slot = 0; array = []; start = 0; wait = None }
