-- A whole set: at each number it shows what a query of that semaphore shows, beyond the set's count zeros; it shows what a
-- reading answers; and its counts add up to the number of arrays that were judged.
use Prim.Native.Nat.{ℕ, zero, suc, ◌+◌, ◌≤◌, ◌<◌}
use native.Mathlib.Nat.{le_of_suc-le-suc}
use native.Mathlib.Omega.{arith}
use mathlib.Core.Path.{◌≡◌, refl, sym, ap, ap₂, ◌∙◌}
use mathlib.Core.Bool.{Bool, true, false, cond, not, ◌&&◌}
use mathlib.Core.List.{List, ◌∷◌}
use lib.Dec.{eqb}
use lib.IntN.{ℤ, pos}
use lib.ListN.{length, get_or}
use lib.Seq.{ext_get_or}
use borrow.Author.Tests.{eqb-true, eqb-false, ne_eqb}
use Rattle.model.specs.declared.Operation.{Operation}
use Rattle.model.specs.declared.QueriedSet.{QueriedSet}
use Rattle.model.specs.Limits.{slots, semaphores}
use Rattle.model.specs.State.{Sleeper, State, row}
use Rattle.model.specs.Operation.{operations_of, is_negative}
use Rattle.model.specs.Look.{look}
use Rattle.model.specs.Marks.{mine, mask_of}
use Rattle.model.specs.Waking.{could_finish}
use Rattle.model.specs.Checks.{slot_of, check_query, check_read_all}
use Rattle.model.specs.Permission.{reading}
use Rattle.model.specs.Counts.{no_operation, stop, stops_at, for_increase, for_zero, count_of, judged_at}
use Rattle.model.specs.Events.{Seen, Answer, Result, answer, checked, nothing_seen, seen_at, do_query, read_at, read_from, do_read_all}
use Rattle.model.specs.WholeSet.{each_from, each, shown_at, set_checked, query_set, reads_from, total, AsQueried, AsRead}
use Rattle.model.specs.Runs.{All, none, also, Reached, Stuck}
use Rattle.model.specs.Invariant.{Invariant, count_at}
use Rattle.model.proofs.Lists.{all_map, all_get_d}
use Rattle.model.proofs.LookLaws.{count_fits}
use Rattle.model.proofs.CheckLaws.{passes_both, alive, query_passes, access_passes}
use Rattle.model.proofs.Engines.{reached}

-- ---- numbers, one for each semaphore

module _ (f : ℕ → ℕ) where
  pub each_long : (k n : ℕ) → length (each_from f k n) ≡ n
  unfolding each_from
  each_long k zero = refl
  each_long k (suc n) = ap suc (each_long (k + 1) n)

  each_from_lem : (k n i : ℕ) → i < n → get_or (each_from f k n) i 0 ≡ f (k + i)
  unfolding each_from
  each_from_lem k zero i h = absurd (omega arith)
  each_from_lem k (suc n) zero h = let e : k + 0 ≡ k = omega arith in rw e
  each_from_lem k (suc n) (suc i) h = let e : k + suc i ≡ k + 1 + i = omega arith in rw e (each_from_lem (k + 1) n i (le_of_suc-le-suc h))

  pub each_at : (i : ℕ) → i < semaphores → get_or (each f) i 0 ≡ f i
  each_at i h = let e : 0 + i ≡ i = omega arith in each_from_lem 0 semaphores i h ∙ ap f e

  -- a list that has them is this one
  pub each_is : (l : List ℕ) → length l ≡ semaphores → ((i : ℕ) → i < semaphores → get_or l i 0 ≡ f i) → l ≡ each f
  each_is l e h = ext_get_or 0 l (each f) (e ∙ sym (each_long 0 semaphores)) (λ i b. h i (rw e at b) ∙ sym (each_at i (rw e at b)))

-- ---- at each number

module _ (s : State) (p : ℕ) (i : ℤ) (n : ℕ) where
  shown_at_lem : n < semaphores → check_read_all s p i ≡ 0 → {a : Answer} → pos 0 ≡ a.code → get_or s.table.values (row (slot_of i) + n) 0 ≡ a.value → seen_at s (slot_of i) n ≡ a.seen → AsQueried a (query_set s p i) n
  unfolding query_set shown_at
  shown_at_lem small z {a} ec ev es =
      rw z
      (record {
        code = ec;
        value = each_at _ n small ∙ ev;
        last = each_at _ n small ∙ ap (λ (x : Seen). x.last) es;
        increase = each_at _ n small ∙ ap (λ (x : Seen). x.increase) es;
        zero = each_at _ n small ∙ ap (λ (x : Seen). x.zero) es;
        increase_mask = each_at _ n small ∙ ap (λ (x : Seen). x.increase_mask) es;
        zero_mask = each_at _ n small ∙ ap (λ (x : Seen). x.zero_mask) es;
      })

  -- what a query of that semaphore shows
  pub set_as_queried : Reached s → check_query s p i n ≡ 0 → AsQueried (do_query s p i n).answer (query_set s p i) n
  unfolding do_query check_query
  set_as_queried r z =
      let small : n < semaphores = omega (arith, (query_passes s p i n z).number, count_fits (reached r).counts (slot_of i)) in
      rw z (shown_at_lem small (passes_both (check_read_all s p i) _ z).0 refl refl refl)

-- ---- what a reading answers

reads_shown : (s : State) (slot k n : ℕ) → k + n ≤ semaphores → read_from s slot k n ≡ reads_from (shown_at s slot).values (shown_at s slot).increase (shown_at s slot).zero k n
unfolding read_from reads_from read_at shown_at
reads_shown s slot k zero h = refl
reads_shown s slot k (suc n) h =
    let small : k < semaphores = omega arith in
    rw (
      each_at (λ (m : ℕ). get_or s.table.values (row slot + m) 0) k small,
      each_at (λ (m : ℕ). (seen_at s slot m).increase) k small,
      each_at (λ (m : ℕ). (seen_at s slot m).zero) k small,
      reads_shown s slot (k + 1) n (omega arith),
    )

read_checked : (code : ℕ) (s : State) (does : Result) (shown : QueriedSet) → AsRead does.answer shown → AsRead (checked code s does).answer (set_checked code shown)
unfolding reads_from
read_checked zero s does shown h = h
read_checked (suc code) s does shown h = record { code = refl; all = refl }

pub set_as_read : (s : State) → Reached s → (p : ℕ) (i : ℤ) → AsRead (do_read_all s p i).answer (query_set s p i)
unfolding do_read_all query_set shown_at
set_as_read s r p i =
    read_checked (check_read_all s p i) s _ (shown_at s (slot_of i))
    (record { code = refl; all = reads_shown s (slot_of i) 0 (count_at s.sets (slot_of i)) (omega (arith, count_fits (reached r).counts (slot_of i))) })

-- ---- where a sleeper of a state stops: at a semaphore that its set has

module _ (s : State) (v : Invariant s) where
  abbrev pub Stops : Sleeper → Type 0
  Stops q = (stop s.table q).number < count_at s.sets q.slot

  pub stops : All Stops s.queue
  unfolding stop
  stops = all_map (λ q f. all_get_d (λ (o : Operation). o.number < count_at s.sets q.slot) (operations_of q.array) (look s.table q).position no_operation f.numbers (alive s.sets q f)) v.fits

  -- it waits at none beyond
  module _ (slot n : ℕ) (l : count_at s.sets slot ≤ n) where
    nowhere : (q : Sleeper) → Stops q → stops_at s.table slot n q ≡ false
    unfolding stops_at mine
    nowhere q h = go (eqb q.slot slot) refl (not (could_finish s.table q))
      where
        go : (b : Bool) → eqb q.slot slot ≡ b → (c : Bool) → b && (c && eqb (stop s.table q).number n) ≡ false
        go true e true = let here : q.slot ≡ slot = eqb-true q.slot slot e in ne_eqb (stop s.table q).number n (λ z. omega (arith, z, l, h, ap (count_at s.sets) here))
        go true e false = refl
        go false e c = refl

    nobody : (test : Sleeper → Bool) → ((q : Sleeper) → stops_at s.table slot n q ≡ false → test q ≡ false) → {q : List Sleeper} → All Stops q → (count_of test q ≡ 0) × (mask_of test 0 q ≡ 0)
    unfolding count_of mask_of
    nobody test h none = (refl, refl)
    nobody test h (also {x = p} k t) = let e : test p ≡ false = h p (nowhere p k) in let more = nobody test h t in rw e (omega (arith, more.0), more.1)

    unseen : slot < slots → n < semaphores → seen_at s slot n ≡ nothing_seen
    unfolding seen_at for_increase for_zero
    unseen ls ln =
        let increase = nobody (for_increase s.table slot n) (λ q e. rw e) stops in
        let zeros = nobody (for_zero s.table slot n) (λ q e. rw e) stops in
        rw ((v.clean slot n ls l ln).last, increase.0, zeros.0, increase.1, zeros.1)

-- from the set's count on every number is 0
pub set_beyond : (s : State) → Reached s → (p : ℕ) (i : ℤ) (n : ℕ) → check_read_all s p i ≡ 0 → count_at s.sets (slot_of i) ≤ n → n < semaphores → AsQueried (answer (pos 0)) (query_set s p i) n
set_beyond s r p i n z l small =
    let v = reached r in
    let ls = (access_passes s p i reading z).named.slot in
    shown_at_lem s p i n small z refl (v.clean (slot_of i) n ls l small).value (unseen s v (slot_of i) n l ls small)

-- ---- the counts of a set add up

total_add : (f g : ℕ → ℕ) (k n : ℕ) → total (each_from (λ (j : ℕ). f j + g j) k n) ≡ total (each_from f k n) + total (each_from g k n)
unfolding total each_from
total_add f g k zero = refl
total_add f g k (suc n) = omega (arith, total_add f g (k + 1) n)

total_same : (f g : ℕ → ℕ) (k n : ℕ) → ((j : ℕ) → f j ≡ g j) → total (each_from f k n) ≡ total (each_from g k n)
unfolding total each_from
total_same f g k zero h = refl
total_same f g k (suc n) h = omega (arith, h k, total_same f g (k + 1) n h)

total_none : (f : ℕ → ℕ) (k n : ℕ) → ((j : ℕ) → f j ≡ 0) → total (each_from f k n) ≡ 0
unfolding total each_from
total_none f k zero h = refl
total_none f k (suc n) h = omega (arith, h k, total_none f (k + 1) n h)

-- one of them is 1, if the test holds
abbrev only_at : ℕ → Bool → ℕ → ℕ
only_at m b j = cond (eqb m j && b) 1 0

total_past : (m : ℕ) (b : Bool) (k n : ℕ) → m < k → total (each_from (only_at m b) k n) ≡ 0
unfolding total each_from
total_past m b k zero l = refl
total_past m b k (suc n) l = rw (ne_eqb m k (λ e. omega arith)) (omega (arith, total_past m b (k + 1) n (omega arith)))

total_only : (m : ℕ) (b : Bool) (k n : ℕ) → k ≤ m → m < k + n → total (each_from (only_at m b) k n) ≡ cond b 1 0
unfolding total each_from
total_only m b k zero h l = absurd (omega arith)
total_only m b k (suc n) h l = go (eqb m k) refl (λ less. total_only m b (k + 1) n less (omega arith))
  where
    go : (c : Bool) → eqb m k ≡ c → (k + 1 ≤ m → total (each_from (only_at m b) (k + 1) n) ≡ cond b 1 0) → cond (c && b) 1 0 + total (each_from (only_at m b) (k + 1) n) ≡ cond b 1 0
    go true e more = omega (arith, total_past m b (k + 1) n (omega (arith, eqb-true m k e)))
    go false e more = omega (arith, more (omega (arith, eqb-false m k e)))

module _ (s : State) (v : Invariant s) (slot : ℕ) where
  abbrev ones_at : (ℕ → Sleeper → Bool) → Sleeper → ℕ → ℕ
  ones_at tests q n = cond (tests n q) 1 0

  abbrev sums : (ℕ → Sleeper → Bool) → List Sleeper → ℕ
  sums tests q = total (each (λ (n : ℕ). count_of (tests n) q))

  -- a sleeper of the slot waits at one of its semaphores, and at one alone
  one_each : (q : Sleeper) → Stops s v q → could_finish s.table q ≡ false
      → total (each (ones_at (for_increase s.table slot) q)) + total (each (ones_at (for_zero s.table slot) q)) ≡ cond (mine slot q) 1 0
  unfolding for_increase for_zero stops_at
  one_each q h f = go (mine slot q) refl
    where
      m : ℕ
      m = (stop s.table q).number

      l : m < 0 + semaphores
      l = omega (arith, h, count_fits v.counts q.slot)

      turned : (b : Bool) → cond b 1 0 + cond (not b) 1 0 ≡ 1
      turned true = refl
      turned false = refl

      go : (b : Bool) → mine slot q ≡ b → total (each (ones_at (for_increase s.table slot) q)) + total (each (ones_at (for_zero s.table slot) q)) ≡ cond b 1 0
      go true e =
          let b : Bool = is_negative (stop s.table q).amount in
          ap₂ (λ (x y : ℕ). x + y)
          (total_same _ (only_at m b) 0 semaphores (λ j. rw (e, f)) ∙ total_only m b 0 semaphores (omega arith) l)
          (total_same _ (only_at m (not b)) 0 semaphores (λ j. rw (e, f)) ∙ total_only m (not b) 0 semaphores (omega arith) l)
          ∙ turned b
      go false e = ap₂ (λ (x y : ℕ). x + y) (total_none _ 0 semaphores (λ j. rw e)) (total_none _ 0 semaphores (λ j. rw e))

  all_add : {q : List Sleeper} → All (Stops s v) q → All (Stuck s) q → sums (for_increase s.table slot) q + sums (for_zero s.table slot) q ≡ judged_at slot q
  unfolding count_of
  all_add none none = ap₂ (λ (x y : ℕ). x + y) (total_none _ 0 semaphores (λ j. refl)) (total_none _ 0 semaphores (λ j. refl))
  all_add (also {x = p} {xs = q} h t) (also f u) =
      omega (arith, split (for_increase s.table slot), split (for_zero s.table slot), one_each p h f, all_add t u)
    where
      split : (tests : ℕ → Sleeper → Bool) → sums tests (p ∷ q) ≡ total (each (ones_at tests p)) + sums tests q
      split tests = total_add (ones_at tests p) (λ (n : ℕ). count_of (tests n) q) 0 semaphores

-- "a sleeper counts once": the counts of all semaphores of a set, added up, are the arrays that were judged
pub set_adds_up : (s : State) → Reached s → (p : ℕ) (i : ℤ) → total (query_set s p i).increase + total (query_set s p i).zero ≡ (query_set s p i).judged
unfolding query_set shown_at seen_at total
set_adds_up s r p i = go (check_read_all s p i)
  where
    go : (code : ℕ) → total (set_checked code (shown_at s (slot_of i))).increase + total (set_checked code (shown_at s (slot_of i))).zero ≡ (set_checked code (shown_at s (slot_of i))).judged
    go zero = let v = reached r in all_add s v (slot_of i) (stops s v) v.stuck
    go (suc code) = refl
