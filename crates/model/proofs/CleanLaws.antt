-- Every number at or above a set's count is 0, and stays so whatever is done to the table.
use Prim.Native.Nat.{ℕ, zero, suc, ◌+◌, ◌≤◌, ◌<◌}
use native.Mathlib.Omega.{arith}
use mathlib.Core.Path.{◌≡◌, refl, ap, ◌∙◌}
use mathlib.Core.Logic.{◌≢◌}
use mathlib.Core.Bool.{Bool, true, false}
use mathlib.Core.List.{List, [], ◌∷◌}
use lib.ListN.{length, get_or, set, replicate, length-replicate, get_or-replicate}
use lib.Dec.{eqb}
use lib.Seq.{slice, paste, get_or-set_other}
use borrow.Author.Tests.{eqb-true, eqb-false}
use lib.IntN.{ℤ, pos}
use Rattle.model.specs.declared.Set.{Set}
use Rattle.model.specs.declared.Operation.{Operation}
use Rattle.model.specs.declared.Outcome.{Outcome}
use Rattle.model.specs.declared.Outcome.TheVariants.{Done, Sleep, Again, Range}
use Rattle.model.specs.declared.Copies.{Copies}
use Rattle.model.specs.declared.Engine.{Engine}
use Rattle.model.specs.Limits.{slots, semaphores, processes, all_semaphores, all_adjustments}
use Rattle.model.specs.State.{Table, Sleeper, row, undo_row, clear_rows, cleared, fresh_table, fresh_state, no_set, no_sleeper}
use Rattle.model.specs.Operation.{operations_of}
use Rattle.model.specs.Look.{copies_of, look, lasts_after, applied, after}
use Rattle.model.specs.Waking.{World, waker, finish}
use Rattle.model.specs.Events.{clear_number, assigned, assigned_all, cut, undo_all, exited}
use Rattle.model.specs.Runs.{All}
use Rattle.model.specs.Invariant.{Good, Fits, Unused, Clean, Calm, count_at}
use Rattle.model.proofs.Lists.{first, rest, all_map, all_zip, all_at, get_d_slice, get_d_paste, get_d_set, get_d_sets_beside}
use Rattle.model.proofs.JudgeLaws.{Fine, Idle, judge_idle}
use Rattle.model.proofs.LookLaws.{get_d_values, get_d_adjustments, look_fine, numbers_fit}
use Rattle.model.proofs.TableLaws.{length_clear_rows, clear_rows_other}
use Rattle.model.proofs.Rules.{tame}
use Rattle.model.proofs.Calm.{finish_calm}

abbrev Zero : ℕ → Type 0
Zero v = v ≡ 0

abbrev ZeroZ : ℤ → Type 0
ZeroZ z = z ≡ pos 0

pub fresh_clean : Clean fresh_state.sets fresh_table
fresh_clean slot n hs hc hn =
    record {
      value = get_or-replicate all_semaphores (row slot + n) 0 0 (omega arith);
      last = get_or-replicate all_semaphores (row slot + n) 0 0 (omega arith);
      adjustment = λ p hp hq. get_or-replicate all_adjustments (undo_row p slot + n) (pos 0) (pos 0) (omega arith);
    }

-- ---- an array that is done

lasts_zero : (l : List ℕ) (slot p : ℕ) (os : List Operation) (j : ℕ) → get_or l j 0 ≡ 0 → All (λ (o : Operation). j ≢ row slot + o.number) os
    → get_or (lasts_after l slot p os) j 0 ≡ 0
unfolding lasts_after
lasts_zero l slot p [] j h others = h
lasts_zero l slot p (o ∷ os) j h others = lasts_zero (set l (row slot + o.number) p) slot p os j (get_or-set_other l (row slot + o.number) j p 0 (first others) ∙ h) (rest others)

module _ {sets : List Set} (counts : All (λ (k : Set). k.count ≤ semaphores) sets) (t : Table) (s : Sleeper) (g : Good t) (f : Fits sets s) where
  applied_clean : Clean sets t → (c : Copies) → Fine c → ((n : ℕ) → count_at sets s.slot ≤ n → n < semaphores → Idle n c) → Clean sets (applied t s c)
  unfolding applied
  applied_clean clean c k idle slot n hs hc hn =
      let hs' : s.slot < slots = f.slot in
      let hp : s.process ≤ processes = f.last in
      let hq : 1 ≤ s.process = f.process in
      let u : Unused t slot n = clean slot n hs hc hn in
      record {
        value = get_d_paste Zero t.values (row s.slot) c.values semaphores (row slot + n) 0 (omega (arith, g.values)) (omega (arith, k.values))
            (λ h. u.value) (λ i lt e. (same i lt (omega arith) (omega arith)).value);
        last = lasts_zero t.lasts s.slot s.process (operations_of s.array) (row slot + n) u.last (all_zip unnamed (numbers_fit counts s f) f.numbers);
        adjustment = λ p lp mp. get_d_paste ZeroZ t.adjustments (undo_row s.process s.slot) c.adjustments semaphores (undo_row p slot + n) (pos 0)
            (omega (arith, g.adjustments)) (omega (arith, k.adjustments)) (λ h. u.adjustment p lp mp) (λ i lt e. (same i lt (omega arith) (omega arith)).adjustment);
      }
    where
      same : (i : ℕ) → i < semaphores → slot ≡ s.slot → n ≡ i → Idle i c
      same i lt es ei = idle i (rw (es, ei) at hc) lt

      unnamed : (o : Operation) → o.number < semaphores → o.number < count_at sets s.slot → row slot + n ≢ row s.slot + o.number
      unnamed o ho ht e =
          let es : slot ≡ s.slot = omega (arith, e) in
          let low : count_at sets s.slot ≤ n = rw es at hc in
          omega (arith, e)

  -- the copies that a look leaves are 0 at a number that the array does not name
  look_idle : Clean sets t → (n : ℕ) → count_at sets s.slot ≤ n → n < semaphores → Idle n (look t s).copies
  unfolding look
  look_idle clean n hc hn = judge_idle n (copies_of t s) (operations_of s.array) (copies_of t s) 0 start start (all_map (λ o lt e. omega arith) f.numbers)
    where
      start : Idle n (copies_of t s)
      start =
          let u : Unused t s.slot n = clean s.slot n f.slot hc hn in
          record {
            value = get_d_values t s.slot n hn ∙ u.value;
            adjustment = get_d_adjustments t s.process s.slot n hn ∙ u.adjustment s.process f.process f.last;
          }

  pub looked_clean : Clean sets t → Clean sets (applied t s (look t s).copies)
  looked_clean clean = applied_clean clean (look t s).copies (look_fine t s g f) (look_idle clean)

  after_clean : Clean sets t → (x : Outcome) → Clean sets (after t s x (look t s).copies)
  unfolding after
  after_clean clean Done = looked_clean clean
  after_clean clean Sleep = clean
  after_clean clean Again = clean
  after_clean clean Range = clean

-- ---- set value

clear_number_zero : (i slot n : ℕ) (l : List ℤ) (j : ℕ) → get_or l j (pos 0) ≡ pos 0 → get_or (clear_number i slot n l) j (pos 0) ≡ pos 0
unfolding clear_number
clear_number_zero zero slot n l j h = h
clear_number_zero (suc i) slot n l j h = get_d_set ZeroZ (clear_number i slot n l) (undo_row (suc i) slot + n) (pos 0) j (pos 0) (clear_number_zero i slot n l j h) (λ e. refl)

pub assigned_clean : (sets : List Set) (t : Table) (slot n v : ℕ) → slot < slots → n < count_at sets slot → n < semaphores → Clean sets t → Clean sets (assigned t slot n v)
unfolding assigned
assigned_clean sets t slot n v hs hc hn clean slot' n' hs' hc' hn' =
    let u : Unused t slot' n' = clean slot' n' hs' hc' hn' in
    record {
      value = get_or-set_other t.values (row slot + n) (row slot' + n') v 0 apart ∙ u.value;
      last = u.last;
      adjustment = λ p hp hq. clear_number_zero processes slot n t.adjustments (undo_row p slot' + n') (u.adjustment p hp hq);
    }
  where
    apart : row slot' + n' ≢ row slot + n
    apart e =
        let es : slot' ≡ slot = omega (arith, e) in
        let low : count_at sets slot ≤ n' = rw es at hc' in
        omega (arith, e)

-- ---- set all

clear_rows_zero : (i slot : ℕ) (l : List ℤ) (j : ℕ) → i ≤ processes → slot < slots → length l ≡ all_adjustments → get_or l j (pos 0) ≡ pos 0 → get_or (clear_rows i slot l) j (pos 0) ≡ pos 0
unfolding clear_rows
clear_rows_zero zero slot l j hi hs e h = h
clear_rows_zero (suc i) slot l j hi hs e h =
    let r : length (clear_rows i slot l) ≡ all_adjustments = length_clear_rows i slot l (omega arith) hs e in
    get_d_paste ZeroZ (clear_rows i slot l) (undo_row (suc i) slot) (replicate semaphores (pos 0)) semaphores j (pos 0) (omega arith) (omega (arith, length-replicate semaphores (pos 0)))
    (λ beside. clear_rows_zero i slot l j (omega arith) hs e h) (λ k lt m. get_or-replicate semaphores k (pos 0) (pos 0) lt)

-- as many values as the set has semaphores
pub assigned_all_clean : (sets : List Set) (t : Table) (slot : ℕ) (vs : List ℕ) → Good t → slot < slots → length vs ≡ count_at sets slot → length vs ≤ semaphores → Clean sets t → Clean sets (assigned_all t slot vs)
unfolding assigned_all
assigned_all_clean sets t slot vs g hs count few clean slot' n hs' hc hn =
    let u : Unused t slot' n = clean slot' n hs' hc hn in
    record {
      value = get_d_sets_beside t.values (row slot) vs (row slot' + n) 0 beside ∙ u.value;
      last = u.last;
      adjustment = λ p hp hq. clear_rows_zero processes slot t.adjustments (undo_row p slot' + n) (omega arith) hs g.adjustments (u.adjustment p hp hq);
    }
  where
    beside : row slot ≤ row slot' + n → row slot + length vs ≤ row slot' + n
    beside le = go (eqb slot' slot) refl
      where
        go : (b : Bool) → eqb slot' slot ≡ b → row slot + length vs ≤ row slot' + n
        go true e = let z : slot' ≡ slot = eqb-true slot' slot e in let low : count_at sets slot ≤ n = rw z at hc in omega (arith, count)
        go false e = let ne : slot' ≢ slot = eqb-false slot' slot e in omega (arith, ne)

-- ---- create and remove

clear_rows_same : (i slot p n : ℕ) (l : List ℤ) → i ≤ processes → slot < slots → n < semaphores → 1 ≤ p → p ≤ i → length l ≡ all_adjustments
    → get_or (clear_rows i slot l) (undo_row p slot + n) (pos 0) ≡ pos 0
unfolding clear_rows
clear_rows_same zero slot p n l hi hs hn hp hq e = absurd (omega arith)
clear_rows_same (suc i) slot p n l hi hs hn hp hq e =
    let r : length (clear_rows i slot l) ≡ all_adjustments = length_clear_rows i slot l (omega arith) hs e in
    get_d_paste ZeroZ (clear_rows i slot l) (undo_row (suc i) slot) (replicate semaphores (pos 0)) semaphores (undo_row p slot + n) (pos 0) (omega arith) (omega (arith, length-replicate semaphores (pos 0)))
    (λ beside. clear_rows_same i slot p n l (omega arith) hs hn hp (earlier beside) e) (λ k lt j. get_or-replicate semaphores k (pos 0) (pos 0) lt)
  where
    earlier : (undo_row (suc i) slot ≤ undo_row p slot + n → undo_row (suc i) slot + semaphores ≤ undo_row p slot + n) → p ≤ i
    earlier beside =
        let ne : p ≢ suc i = λ z. omega (arith, z, beside (omega (arith, z))) in
        omega (arith, ne)

-- a slot is cleared and given a set
pub cleared_clean : (sets : List Set) (t : Table) (slot : ℕ) (k : Set) → Good t → slot < slots → Clean sets t → Clean (set sets slot k) (cleared t slot)
unfolding cleared
cleared_clean sets t slot k g hs clean slot' n hs' hc hn = go (eqb slot' slot) refl
  where
    count : slot' ≢ slot → count_at (set sets slot k) slot' ≡ count_at sets slot'
    count ne = ap (λ (x : Set). x.count) (get_or-set_other sets slot slot' k no_set ne)

    old : slot' ≢ slot → Unused t slot' n
    old ne = clean slot' n hs' (rw (count ne) at hc) hn

    zeros : (l : List ℕ) → length l ≡ all_semaphores → (slot' ≢ slot → get_or l (row slot' + n) 0 ≡ 0) → get_or (paste l (row slot) (replicate semaphores 0) semaphores) (row slot' + n) 0 ≡ 0
    zeros l e h =
        get_d_paste Zero l (row slot) (replicate semaphores 0) semaphores (row slot' + n) 0 (omega arith) (omega arith)
        (λ beside. h (λ z. omega (arith, z, beside (omega (arith, z))))) (λ i lt j. get_or-replicate semaphores i 0 0 lt)

    undone : (b : Bool) → eqb slot' slot ≡ b → (p : ℕ) → 1 ≤ p → p ≤ processes → get_or (clear_rows processes slot t.adjustments) (undo_row p slot' + n) (pos 0) ≡ pos 0
    undone true e p hp hq =
        let z : slot' ≡ slot = eqb-true slot' slot e in
        rw z (clear_rows_same processes slot p n t.adjustments (omega arith) hs hn hp hq g.adjustments)
    undone false e p hp hq =
        let ne : slot' ≢ slot = eqb-false slot' slot e in
        clear_rows_other processes slot p slot' n t.adjustments (omega arith) hs hs' hn ne g.adjustments ∙ (old ne).adjustment p hp hq

    go : (b : Bool) → eqb slot' slot ≡ b → Unused (cleared t slot) slot' n
    go b e =
        record {
          value = zeros t.values g.values (λ ne. (old ne).value);
          last = zeros t.lasts g.lasts (λ ne. (old ne).last);
          adjustment = undone b e;
        }

-- ---- exit

-- an adjustment of 0 adds nothing to 0
undo_all_zero : (v : List ℕ) (a : List ℤ) (j : ℕ) → get_or v j 0 ≡ 0 → get_or a j (pos 0) ≡ pos 0 → get_or (undo_all v a) j 0 ≡ 0
unfolding undo_all cut
undo_all_zero [] a j h k = refl
undo_all_zero (x ∷ v) [] j h k = h
undo_all_zero (x ∷ v) (y ∷ a) zero h k = rw (h, k)
undo_all_zero (x ∷ v) (y ∷ a) (suc j) h k = undo_all_zero v a j h k

pub exited_clean : (sets : List Set) (t : Table) (p : ℕ) → Good t → 1 ≤ p → p ≤ processes → Clean sets t → Clean sets (exited t p)
unfolding exited
exited_clean sets t p g hp hq clean slot n hs hc hn =
    let u : Unused t slot n = clean slot n hs hc hn in
    let z : undo_row p 0 + (row slot + n) ≡ undo_row p slot + n = omega arith in
    record {
      value = undo_all_zero t.values (slice (undo_row p 0) (undo_row p 0 + all_semaphores) t.adjustments) (row slot + n) u.value
          (get_d_slice (undo_row p 0) (undo_row p 0 + all_semaphores) t.adjustments (row slot + n) (pos 0) (omega arith) ∙ rw z (u.adjustment p hp hq));
      last = u.last;
      adjustment = λ p' hp' hq'. get_d_paste ZeroZ t.adjustments (undo_row p 0) (replicate all_semaphores (pos 0)) all_semaphores (undo_row p' slot + n) (pos 0)
          (omega (arith, g.adjustments)) (omega (arith, length-replicate all_semaphores (pos 0))) (λ h. u.adjustment p' hp' hq') (λ k lt e. get_or-replicate all_semaphores k (pos 0) (pos 0) lt);
    }

-- ---- a waking

module _ {sets : List Set} (counts : All (λ (k : Set). k.count ≤ semaphores) sets) where
  finish_clean : (w : World) (i : ℕ) → Calm sets w → i < length w.queue → Clean sets w.table → Clean sets (finish w i).table
  unfolding finish
  finish_clean w i c h clean =
      let s : Sleeper = get_or w.queue i no_sleeper in
      after_clean counts w.table s c.good (all_at w.queue i no_sleeper c.fits h) clean (look w.table s).outcome

  pub wake_clean : (engine : Engine) (slot touched : ℕ) (w : World) (l : ℕ) → Calm sets w → Clean sets w.table → Clean sets (waker engine slot touched w l).world.table
  wake_clean engine slot touched w l c clean =
      ((tame engine).keeps slot touched w l (λ (w : World). Calm sets w × Clean sets w.table)
      (λ w i k lt mi e. (finish_calm w i k.0 lt, finish_clean w i k.0 lt k.1)) (c, clean)).1
