-- The sleeper of a process: whether it sleeps, where it stands, and the queue without it.
use Prim.Native.Nat.{ℕ, zero, suc, ◌≤◌, ◌<◌}
use native.Mathlib.Nat.{not-suc-le-zero, le_of_suc-le-suc}
use native.Mathlib.Omega.{arith}
use mathlib.Core.Path.{◌≡◌, refl, sym, ap, ◌∙◌}
use mathlib.Core.Logic.{◌≢◌, ⊎_elim}
use mathlib.Core.Bool.{Bool, true, false, cond, ◌||◌}
use mathlib.Core.List.{List, [], ◌∷◌}
use borrow.Author.Tests.{eq-eqb, ne_eqb, lt-ltb}
use lib.Dec.{eqb, ltb}
use lib.ListN.{length, get_or, get_or-eq_default}
use Rattle.std.specs.Prelude.{Option, MatchOption}
use Rattle.std.proofs.Common.{None, Some}
use Rattle.model.specs.Limits.{processes}
use Rattle.model.specs.State.{Sleeper, no_sleeper}
use Rattle.model.specs.Waking.{without}
use Rattle.model.specs.Checks.{asleep}
use Rattle.model.specs.Events.{keep, not_of}
use Rattle.model.specs.Runs.{All, none, also}
use Rattle.model.specs.Invariant.{Distinct, apart}
use Rattle.model.proofs.Lists.{first, rest, all_map, all_at}
use Rattle.model.proofs.QueueLaws.{awake}
use Rattle.host.specs.Parts.{Row, order, sizes}
use Rattle.host.specs.Parts as Parts
use Rattle.host.specs.Holding.{of_process, by_process, the_size, with_queue, entry, queue_in}
use Rattle.host.specs.Queue.{Room, QueueHeld}
use Rattle.host.proofs.PartLaws.{less_or_not}
use Rattle.host.proofs.ProcessLaws.{Awake, of_none, length_by, of_process_lem}
use Rattle.host.proofs.QueueRows.{entry_is}
use Rattle.service_queue.specs.Seated.{Seated, IsPositionOf}
use Rattle.service_queue.proofs.QueueHeldLaws.{part_is, asleep_is, process_is}

-- ---- it sleeps if its array has bytes

-- a process that has an entry
entry_in : (p : ℕ) → entry p < processes → (1 ≤ p) × (p ≤ processes)
entry_in zero h = absurd (omega arith)
entry_in (suc p) h = (omega arith, omega arith)

-- one that has none is awake
entry_out : (p : ℕ) (q : List Sleeper) → All Room q → processes ≤ entry p → Awake p q
entry_out p q f h = all_map (λ s k e. omega (arith, k.process, k.last, entry_is p (omega (arith, k.process)))) f

size_of : (p : ℕ) (q : List Sleeper) → All Room q → get_or (by_process the_size processes 1 q) (entry p) 0 ≡ of_process 0 the_size p q
size_of p q f = ⊎_elim
    (λ h. rw (entry_is p (entry_in p h).0) (of_process_lem the_size q p (entry_in p h).0 (entry_in p h).1))
    (λ h. get_or-eq_default (by_process the_size processes 1 q) 0 (omega (arith, length_by the_size processes 1 q)) ∙ sym (of_none 0 the_size p q (entry_out p q f h)))
    (less_or_not (entry p) processes)

asleep_of : (p : ℕ) (q : List Sleeper) → All (λ (s : Sleeper). 0 < length s.array) q → ltb 0 (of_process 0 the_size p q) ≡ asleep p q
unfolding of_process asleep
asleep_of p [] h = refl
asleep_of p (s ∷ q) h = go (eqb s.process p) (asleep_of p q (rest h))
  where
    go : (b : Bool) → ltb 0 (of_process 0 the_size p q) ≡ asleep p q → ltb 0 (cond b (length s.array) (of_process 0 the_size p q)) ≡ b || asleep p q
    go true e = lt-ltb 0 (length s.array) (first h)
    go false e = e

pub asleep_read : {r : Row} → Seated r → (p : ℕ) → ltb 0 (get_or (r sizes) (entry p) 0) ≡ asleep p (queue_in r)
asleep_read {r} k p =
    ap (λ (l : List ℕ). ltb 0 (get_or l (entry p) 0)) (part_is k.holding sizes)
    ∙ ap (ltb 0) (size_of p (queue_in r) k.holding.fits.rooms)
    ∙ asleep_of p (queue_in r) k.some

-- ---- its position

module _ (p : ℕ) where
  -- nobody of a queue is it
  pub nobody_is : (q : List Sleeper) → ((i : ℕ) → i < length q → (get_or q i no_sleeper).process ≢ p) → asleep p q ≡ false
  unfolding asleep
  nobody_is [] h = refl
  nobody_is (s ∷ q) h = rw (ne_eqb s.process p (h 0 (omega arith))) (nobody_is q (λ i l. h (suc i) (omega arith)))

  -- somebody of a queue is it
  pub somebody_is : (q : List Sleeper) (i : ℕ) → IsPositionOf p q i → asleep p q ≡ true
  unfolding asleep
  somebody_is [] i h = absurd (not-suc-le-zero h.inside)
  somebody_is (s ∷ q) zero h = rw (eq-eqb s.process p h.own)
  somebody_is (s ∷ q) (suc i) h = or_true (eqb s.process p) (somebody_is q i (record { inside = le_of_suc-le-suc h.inside; own = h.own }))
    where
      or_true : (a : Bool) {b : Bool} → b ≡ true → (a || b) ≡ true
      or_true true e = refl
      or_true false e = e

-- the order is looked at from the oldest on, as far as it is found
pub position_is : {r : Row} → QueueHeld r → (p n : ℕ) → n ≡ get_or (r Parts.asleep) 0 0 → (o : Option ℕ)
    → MatchOption o ((k : ℕ) → 0 ≤ k → k < n → get_or (r order) k 0 ≢ p) (λ i. (0 ≤ i) × (i < n) × (get_or (r order) i 0 ≡ p) × ((k : ℕ) → 0 ≤ k → k < i → get_or (r order) k 0 ≢ p))
    → MatchOption o (asleep p (queue_in r) ≡ false) (IsPositionOf p (queue_in r))
position_is {r} v p n e None h = nobody_is p (queue_in r) (λ i l f. h i (omega arith) (omega (arith, e, asleep_is v)) (process_is v i l ∙ f))
position_is {r} v p n e (Some i) h =
    let l : i < length (queue_in r) = omega (arith, e, asleep_is v, h.1) in
    record { inside = l; own = sym (process_is v i l) ∙ h.2 }

-- ---- the queue without it

module _ (p : ℕ) where
  keep_awake : (q : List Sleeper) → Awake p q → keep (not_of p) q ≡ q
  unfolding keep
  keep_awake [] none = refl
  keep_awake (s ∷ q) (also h t) = rw (ne_eqb s.process p h) (ap (λ (r : List Sleeper). s ∷ r) (keep_awake q t))

  keep_without : (q : List Sleeper) (i : ℕ) → Distinct q → i < length q → (get_or q i no_sleeper).process ≡ p → keep (not_of p) q ≡ without q i
  unfolding keep without
  keep_without [] i d h e = absurd (not-suc-le-zero h)
  keep_without (s ∷ q) zero (apart o d) h e = rw (eq-eqb s.process p e) (keep_awake q (rw e at o))
  keep_without (s ∷ q) (suc i) (apart o d) h e =
      let g : i < length q = le_of_suc-le-suc h in
      let n : s.process ≢ p = λ (x : s.process ≡ p). all_at q i no_sleeper o g (e ∙ sym x) in
      rw (ne_eqb s.process p n) (ap (λ (r : List Sleeper). s ∷ r) (keep_without q i d g e))

  module _ {r : Row} (k : QueueHeld r) where
    pub left_asleep : {at : ℕ} → IsPositionOf p (queue_in r) at → {r' : Row} → r' ≡ with_queue r (without (queue_in r) at) → r' ≡ with_queue r (keep (not_of p) (queue_in r))
    left_asleep {at} h e = e ∙ ap (with_queue r) (sym (keep_without (queue_in r) at k.fits.distinct h.inside h.own))

    pub left_awake : asleep p (queue_in r) ≡ false → r ≡ with_queue r (keep (not_of p) (queue_in r))
    left_awake a = k.holds ∙ ap (with_queue r) (sym (keep_awake (queue_in r) (awake p (queue_in r) a)))
