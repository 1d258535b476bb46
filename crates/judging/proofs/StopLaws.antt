-- Where an array stops by the values alone: the turns of the loop that finds it; and, if judging would sleep, it is where
-- judging stops.
use Prim.Native.Nat.{ℕ, zero, suc, ◌+◌, ◌-◌, ◌*◌, ◌/◌, ◌%◌, ◌≤◌, ◌<◌}
use native.Mathlib.Nat.{mod-eq_of_lt, zero-add, sub-zero, min-le_left, min-le_right}
use native.Mathlib.Omega.{arith}
use mathlib.Core.Path.{◌≡◌, refl, sym, ap, ◌∙◌}
use mathlib.Core.Bool.{Bool, true, false, cond, not, ◌&&◌}
use mathlib.Core.List.{List, [], ◌∷◌, ◌++◌}
use lib.ListN.{length, get_or, set, take, length-take}
use lib.Seq.{get_or-take, set-get_or}
use lib.IntN.{ℤ, pos, negsuc, ◌-ℤ◌}
use lib.Signed.{lt_z}
use borrow.Author.Tests.{le-leb, lt-ltb, le-ltb, not-true, not-false}
use Rattle.model.specs.declared.Operation.{Operation}
use Rattle.model.specs.declared.Outcome.{Outcome}
use Rattle.model.specs.declared.Outcome.TheVariants.{Done, Sleep, Again, Range}
use Rattle.model.specs.declared.Copies.{Copies}
use Rattle.model.specs.declared.Judged.{Judged}
use Rattle.model.specs.Limits.{semaphores, value_max, operation_bytes}
use Rattle.model.specs.Operation.{operation_at, operations_from, operations_of, is_zero, no_wait, with_undo}
use Rattle.model.specs.Judge.{next_value, next_adjustment, judged, with_value, undone, valued, step, go_on, judge_from, judge}
use Rattle.model.specs.Checks.{in_range}
use Rattle.model.specs.Counts.{no_operation}
use Rattle.model.specs.Runs.{All}
use Rattle.model.proofs.Lists.{first, rest, all_get_d}
use Rattle.model.proofs.JudgeLaws.{either, Fine, step_fine, next_small}
use Rattle.judging.specs.Value.{value_of}
use Rattle.judging.specs.Stop.{moved_to, Stopped, stopped_at, stop_from, goes_through}
use Rattle.judging.proofs.Operations as operations
use Rattle.judging.proofs.Values.{tested, next_is}
use Rattle.std.specs.Prelude.{Option, Some, None, Ok, Err, Result}
use Rattle.model.specs.declared.Halt.{Halt}
use Rattle.model.specs.declared.Halt.TheVariants.{Over, Stop}

-- ---- the turns of the loop: o is the i-th operation of the bytes, n its number within a set, and new where its amount leads

-- where operations stop, and whether they all go through
abbrev pub stop_by : List Operation → List ℕ → Stopped × Bool
stop_by os vs = (stop_from os vs, goes_through os vs)

either_way : (b : Bool) (on off : Stopped) (more : Bool) → ◌≡◌ {A = Stopped × Bool} (cond b on off, b && more) (cond b (on, more) (off, false))
either_way true on off more = refl
either_way false on off more = refl

by_first : (o : Operation) (os : List Operation) (vs : List ℕ)
    → stop_by (o ∷ os) vs
    ≡ cond (in_range (moved_to (get_or vs (o.number % semaphores) 0) o.amount)) (stop_by os (set vs (o.number % semaphores) (value_of (moved_to (get_or vs (o.number % semaphores) 0) o.amount)))) (stopped_at o vs, false)
unfolding stop_from goes_through
by_first o os vs =
    let n : ℕ = o.number % semaphores in
    let new : ℤ = moved_to (get_or vs n 0) o.amount in
    either_way (in_range new) (stop_from os (set vs n (value_of new))) (stopped_at o vs) (goes_through os (set vs n (value_of new)))

module _ (bytes : List ℕ) (i : ℕ) (o : Operation) (vs : List ℕ) {n : ℕ} {new : ℤ}
    (h : i < length bytes / 6)
    (eo : o ≡ operation_at bytes (i * 6))
    (en : n ≡ o.number % semaphores)
    (ew : new ≡ moved_to (get_or vs n 0) o.amount) where
  turned : stop_by (operations.rest bytes i) vs ≡ cond (in_range new) (stop_by (operations.rest bytes (i + 1)) (set vs n (value_of new))) (stopped_at o vs, false)
  turned = rw (operations.first bytes i h, ew, en, eo) (by_first (operation_at bytes (i * 6)) (operations.rest bytes (i + 1)) vs)

  pub goes_on : not (in_range new) ≡ false → stop_by (operations.rest bytes (i + 1)) (set vs n (value_of new)) ≡ stop_by (operations.rest bytes i) vs
  goes_on t = sym (turned ∙ rw (not-false (in_range new) t))

  pub stops_here : not (in_range new) ≡ true → ◌≡◌ {A = Stopped × Bool} (stopped_at o vs, false) (stop_by (operations.rest bytes i) vs)
  stops_here t = sym (turned ∙ rw (not-true (in_range new) t))

-- .. where the amount is 0: it goes on from 0 to 0, and stops at any other value
zero_out : (v : ℕ) → (v ≡ 0 → ⊥) → in_range (pos 0 -ℤ pos v) ≡ false
unfolding in_range
zero_out zero h = absurd (h refl)
zero_out (suc v) h = rw (lt-ltb 0 (suc v) (omega arith))

module _ (bytes : List ℕ) (i : ℕ) (o : Operation) (vs : List ℕ) {n : ℕ} (h : i < length bytes / 6) (eo : o ≡ operation_at bytes (i * 6)) (en : n ≡ o.number % semaphores)
    (z : is_zero o.amount ≡ true) where
  leads : moved_to (get_or vs n 0) o.amount ≡ pos 0 -ℤ pos (get_or vs n 0)
  leads = rw z

  pub zero_on : get_or vs n 0 ≡ 0 → stop_by (operations.rest bytes (i + 1)) vs ≡ stop_by (operations.rest bytes i) vs
  unfolding in_range value_of
  zero_on e =
      let here : moved_to (get_or vs n 0) o.amount ≡ pos 0 = leads ∙ rw e in
      let still : set vs n 0 ≡ vs = ap (set vs n) (sym e) ∙ set-get_or vs n 0 in
      rw still at (goes_on bytes i o vs h eo en (sym here) refl)

  pub zero_stops : (get_or vs n 0 ≡ 0 → ⊥) → ◌≡◌ {A = Stopped × Bool} (stopped_at o vs, false) (stop_by (operations.rest bytes i) vs)
  zero_stops e = stops_here bytes i o vs h eo en (sym leads) (ap not (zero_out (get_or vs n 0) e))

pub stops_nowhere : (bytes vs : List ℕ) (i : ℕ) → i ≡ length bytes / 6 → ◌≡◌ {A = Stopped × Bool} (stopped_at no_operation vs, true) (stop_by (operations.rest bytes i) vs)
unfolding stop_from goes_through
stops_nowhere bytes vs i e = rw (operations.none bytes i e)

-- ---- one operation, as its value fares

-- where an amount leads that stops, and one that goes on
stop_tested : (new z : ℤ) → tested new z ≡ Err Stop → in_range new ≡ false
unfolding in_range
stop_tested (pos m) z e = go (lt_z (pos 32767) (pos m) && lt_z (pos 0) z) (rw (le-ltb m 0 (omega arith)) at e)
  where
    go : (b : Bool) → cond b (Err Over) (Ok m) ≡ Err Stop → in_range (pos m) ≡ false
    go true f = let r : ◌≡◌ {A = ℕ} 0 1 = cc in absurd (omega arith)
    go false f = let r : ◌≡◌ {A = ℕ} 0 1 = cc in absurd (omega arith)
stop_tested (negsuc m) z e = refl

to_tested : (new z : ℤ) (x : ℕ) → tested new z ≡ Ok x → new ≡ pos x
to_tested (pos m) z x e = go (lt_z (pos 32767) (pos m) && lt_z (pos 0) z) (rw (le-ltb m 0 (omega arith)) at e)
  where
    go : (b : Bool) → cond b (Err Over) (Ok m) ≡ Ok x → ◌≡◌ {A = ℤ} (pos m) (pos x)
    go true f = let r : ◌≡◌ {A = ℕ} 0 1 = cc in absurd (omega arith)
    go false f = let r : m ≡ x = cc in rw r
to_tested (negsuc m) z x e = let r : ◌≡◌ {A = ℕ} 0 1 = cc in absurd (omega arith)

-- ---- an array that would sleep

-- judging decides at none of the operations before it
decides_after : (start : Copies) (os : List Operation) (c : Copies) (i : ℕ) → i ≤ (judge_from start os c i).position
unfolding judge_from go_on
decides_after start [] c i = omega arith
decides_after start (o ∷ os) c i = go (step c o i).outcome _ (decides_after start os (step c o i).copies (i + 1))
  where
    go : (x : Outcome) (more : Judged) → i + 1 ≤ more.position → i ≤ (go_on start i x more).position
    go Done more h = omega (arith, h)
    go Sleep more h = omega arith
    go Again more h = omega arith
    go Range more h = omega arith

module _ (start : Copies) (more : List Operation) where
  -- where judging stops, an array with anything behind it stops by the values
  abbrev Found : List Operation → Copies → ℕ → Judged → Type 0
  Found os c i j = j.outcome ≡ Sleep → ((stop_from (os ++ more) c.values).operation ≡ get_or os (j.position - i) no_operation) × (goes_through (os ++ more) c.values ≡ false)

  module _ (o : Operation) (os : List Operation) (c : Copies) (i : ℕ) (f : Fine c) (small : o.number < semaphores)
      (on : (c' : Copies) → Fine c' → Found os c' (i + 1) (judge_from start os c' (i + 1))) where
    abbrev value : ℕ
    value = get_or c.values o.number 0

    -- it goes on to the value x
    to : (x : ℕ) (c' : Copies) → next_value value o.amount ≡ Ok x → c'.values ≡ set c.values o.number x → Fine c' → Found (o ∷ os) c i (judge_from start os c' (i + 1))
    unfolding stop_from goes_through in_range value_of
    to x c' ex ev f' e =
        let here : o.number % semaphores ≡ o.number = mod-eq_of_lt small in
        let new : moved_to value o.amount ≡ pos x = to_tested (moved_to value o.amount) o.amount x (sym (next_is value o.amount) ∙ ex) in
        let fits : x ≤ value_max = next_small value o.amount x (all_get_d (λ (v : ℕ). v ≤ value_max) c.values o.number 0 f.small (omega arith)) ex in
        let p : (judge_from start os c' (i + 1)).position - i ≡ suc ((judge_from start os c' (i + 1)).position - (i + 1)) = omega (arith, decides_after start os c' (i + 1)) in
        rw (here, new, le-leb x value_max fits, p, ← ev) (on c' f' e)

    -- what is found where the operation comes to j
    abbrev Finds : Judged → Type 0
    Finds j = Fine j.copies → Found (o ∷ os) c i (go_on start i j.outcome (judge_from start os j.copies (i + 1)))

    stops : next_value value o.amount ≡ Err Stop → Finds (judged Sleep i c)
    unfolding stop_from goes_through go_on
    stops ex g e =
        let here : o.number % semaphores ≡ o.number = mod-eq_of_lt small in
        let out : in_range (moved_to value o.amount) ≡ false = stop_tested (moved_to value o.amount) o.amount (sym (next_is value o.amount) ∙ ex) in
        let p : i - i ≡ 0 = omega arith in
        rw (here, out, p) (refl, refl)

    undone_by : (x : ℕ) → next_value value o.amount ≡ Ok x → (y : Option ℤ) → Finds (undone c o i x y)
    unfolding go_on
    undone_by x ex None g e = let z : ◌≡◌ {A = ℕ} 0 1 = cc in absurd (omega arith)
    undone_by x ex (Some a) g e = to x _ ex refl g e

    by : (x : Result ℕ Halt) → next_value value o.amount ≡ x → Finds (valued c o i x)
    unfolding go_on
    by (Err Over) ex = λ g e. let z : ◌≡◌ {A = ℕ} 0 1 = cc in absurd (omega arith)
    by (Err Stop) ex = either Finds (no_wait o) _ _ (λ g e. let z : ◌≡◌ {A = ℕ} 0 1 = cc in absurd (omega arith)) (stops ex)
    by (Ok x) ex =
        let y : Option ℤ = next_adjustment (get_or c.adjustments o.number (pos 0)) o.amount in
        either Finds (with_undo o) (undone c o i x y) (judged Done i (with_value c o.number x)) (undone_by x ex y) (to x (with_value c o.number x) ex refl)

  stop_found : (os : List Operation) (c : Copies) (i : ℕ) → Fine c → All (λ (o : Operation). o.number < semaphores) os → Found os c i (judge_from start os c i)
  unfolding judge_from step
  stop_found [] c i f ns e = let z : ◌≡◌ {A = ℕ} 0 1 = cc in absurd (omega arith)
  stop_found (o ∷ os) c i f ns e = by o os c i f (first ns) (λ c' g. stop_found os c' (i + 1) g (rest ns)) _ refl (step_fine c o i f) e

-- ---- an array, and whatever stands behind it in its room

module _ (bytes : List ℕ) where
  operations_split : (at m n : ℕ) → operations_from bytes at (m + n) ≡ operations_from bytes at m ++ operations_from bytes (at + operation_bytes * m) n
  unfolding operations_from
  operations_split at zero n = let e : at + 6 * 0 ≡ at = omega arith in rw (zero-add, e)
  operations_split at (suc m) n =
      let e : suc m + n ≡ suc (m + n) = omega arith in
      let f : at + 6 * suc m ≡ at + 6 + 6 * m = omega arith in
      rw (e, f) (ap (λ (os : List Operation). operation_at bytes at ∷ os) (operations_split (at + 6) m n))

  -- the operations of the first k bytes
  operations_taken : (k at n : ℕ) → at + operation_bytes * n ≤ k → operations_from (take k bytes) at n ≡ operations_from bytes at n
  unfolding operations_from
  operations_taken k at zero h = refl
  operations_taken k at (suc n) h =
      let byte : (j : ℕ) → at + j < k → get_or (take k bytes) (at + j) 0 ≡ get_or bytes (at + j) 0 = λ j l. get_or-take k bytes (at + j) 0 l in
      rw (get_or-take k bytes at 0 (omega arith), byte 1 (omega arith), byte 2 (omega arith), byte 3 (omega arith), byte 4 (omega arith), byte 5 (omega arith), operations_taken k (at + 6) n (omega arith))

  -- where judging stops, and that it stops at all
  pub stop_in_room : (k : ℕ) (start : Copies) → Fine start → All (λ (o : Operation). o.number < semaphores) (operations_of (take k bytes)) → (judge start (operations_of (take k bytes))).outcome ≡ Sleep
      → ((stop_from (operations_of bytes) start.values).operation ≡ get_or (operations_of (take k bytes)) (judge start (operations_of (take k bytes))).position no_operation) × (goes_through (operations_of bytes) start.values ≡ false)
  stop_in_room k start f ns e =
      let m : ℕ = length (take k bytes) / 6 in
      let more : List Operation = operations_from bytes (0 + 6 * m) (length bytes / 6 - m) in
      let least : length (take k bytes) ≤ k = rw length-take (min-le_left k (length bytes)) in
      let most : length (take k bytes) ≤ length bytes = rw length-take (min-le_right k (length bytes)) in
      let whole : length bytes / 6 ≡ m + (length bytes / 6 - m) = omega (arith, most) in
      let os : operations_of bytes ≡ operations_of (take k bytes) ++ more =
      ap (operations_from bytes 0) whole ∙ operations_split 0 m (length bytes / 6 - m) ∙ ap (λ (l : List Operation). l ++ more) (sym (operations_taken k 0 m (omega (arith, least)))) in
      rw os (rw sub-zero at (stop_found start more (operations_of (take k bytes)) start 0 f ns e))
