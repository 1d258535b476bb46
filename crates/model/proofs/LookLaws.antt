-- A look: what it leaves is a good table, and it depends only on the values that the array names and on the sleeper's own adjustments.
use Prim.Native.Nat.{ℕ, ◌+◌, ◌≤◌, ◌<◌}
use native.Mathlib.Omega.{arith}
use mathlib.Core.Path.{◌≡◌, refl, sym, ◌∙◌}
use mathlib.Core.Logic.{◌≢◌}
use mathlib.Core.Bool.{false}
use mathlib.Core.List.{List, [], ◌∷◌}
use lib.ListN.{length, get_or, set, length-set}
use lib.Seq.{length-paste, length-slice}
use lib.IntN.{pos}
use Rattle.model.specs.declared.Set.{Set}
use Rattle.model.specs.declared.Operation.{Operation}
use Rattle.model.specs.declared.Outcome.{Outcome}
use Rattle.model.specs.declared.Outcome.TheVariants.{Done, Sleep, Again, Range}
use Rattle.model.specs.declared.Copies.{Copies}
use Rattle.model.specs.Limits.{slots, semaphores, processes}
use Rattle.model.specs.State.{Table, Sleeper, no_set, row, undo_row}
use Rattle.model.specs.Operation.{operations_of, has_bit}
use Rattle.model.specs.Look.{values_of, adjustments_of, copies_of, look, lasts_after, applied, after}
use Rattle.model.specs.Marks.{named, differing}
use Rattle.model.specs.Waking.{could_finish}
use Rattle.model.specs.Runs.{All}
use Rattle.model.proofs.Lists.{all_map, all_zip, all_zip3, all_get_d, all_slice, all_paste, get_d_slice, get_d_paste_beside}
use Rattle.model.specs.Invariant.{Good, Fits, Other, count_at}
use Rattle.model.proofs.Bits.{bit}
use Rattle.model.proofs.MarkLaws.{untouched, differing_off}
use Rattle.model.proofs.JudgeLaws.{Fine, judge_fine, SameFor, Agreed, judge_local}

-- ---- the copies

module _ (t : Table) (g : Good t) where
  pub length_values : (slot : ℕ) → slot < slots → length (values_of t slot) ≡ semaphores
  unfolding values_of
  length_values slot h = length-slice (row slot) (row slot + semaphores) t.values (omega (arith, g.values)) ∙ omega arith

  pub length_adjustments : (p slot : ℕ) → 1 ≤ p → p ≤ processes → slot < slots → length (adjustments_of t p slot) ≡ semaphores
  unfolding adjustments_of
  length_adjustments p slot hp hq h = length-slice (undo_row p slot) (undo_row p slot + semaphores) t.adjustments (omega (arith, g.adjustments)) ∙ omega arith

pub get_d_values : (t : Table) (slot n : ℕ) → n < semaphores → get_or (values_of t slot) n 0 ≡ get_or t.values (row slot + n) 0
unfolding values_of
get_d_values t slot n h = get_d_slice (row slot) (row slot + semaphores) t.values n 0 (omega arith)

pub get_d_adjustments : (t : Table) (p slot n : ℕ) → n < semaphores → get_or (adjustments_of t p slot) n (pos 0) ≡ get_or t.adjustments (undo_row p slot + n) (pos 0)
unfolding adjustments_of
get_d_adjustments t p slot n h = get_d_slice (undo_row p slot) (undo_row p slot + semaphores) t.adjustments n (pos 0) (omega arith)

module _ {sets : List Set} (t : Table) (s : Sleeper) (g : Good t) (f : Fits sets s) where
  pub copies_fine : Fine (copies_of t s)
  unfolding values_of adjustments_of
  copies_fine =
      record {
        values = length_values t g s.slot f.slot;
        adjustments = length_adjustments t g s.process s.slot f.process f.last f.slot;
        small = all_slice (row s.slot) (row s.slot + semaphores) t.values g.small;
        ranged = all_slice (undo_row s.process s.slot) (undo_row s.process s.slot + semaphores) t.adjustments g.ranged;
      }

  pub look_fine : Fine (look t s).copies
  unfolding look
  look_fine = judge_fine (copies_of t s) (operations_of s.array) (copies_of t s) 0 copies_fine copies_fine

-- ---- the table after it

pub length_lasts : (l : List ℕ) (slot p : ℕ) (os : List Operation) → length (lasts_after l slot p os) ≡ length l
unfolding lasts_after
length_lasts l slot p [] = refl
length_lasts l slot p (o ∷ os) = length_lasts (set l (row slot + o.number) p) slot p os ∙ length-set l (row slot + o.number) p

module _ {sets : List Set} (t : Table) (s : Sleeper) (g : Good t) (f : Fits sets s) where
  pub applied_good : (c : Copies) → Fine c → Good (applied t s c)
  unfolding applied
  applied_good c k =
      let hs : s.slot < slots = f.slot in
      let hp : s.process ≤ processes = f.last in
      let hq : 1 ≤ s.process = f.process in
      record {
        values = length-paste t.values (row s.slot) c.values semaphores (omega (arith, g.values)) (omega (arith, k.values)) ∙ g.values;
        lasts = length_lasts t.lasts s.slot s.process (operations_of s.array) ∙ g.lasts;
        adjustments =
            length-paste t.adjustments (undo_row s.process s.slot) c.adjustments semaphores (omega (arith, g.adjustments)) (omega (arith, k.adjustments))
            ∙ g.adjustments;
        small = all_paste t.values (row s.slot) c.values semaphores g.small k.small;
        ranged = all_paste t.adjustments (undo_row s.process s.slot) c.adjustments semaphores g.ranged k.ranged;
      }

  pub after_good : (x : Outcome) (c : Copies) → Fine c → Good (after t s x c)
  unfolding after
  after_good Done c k = applied_good c k
  after_good Sleep c k = g
  after_good Again c k = g
  after_good Range c k = g

-- ---- what a look depends on

-- an operation finds the same value, and the same adjustment of the sleeper's process, in two tables
abbrev pub SameValue : Table → Table → Sleeper → Operation → Type 0
SameValue t t' s o = get_or t.values (row s.slot + o.number) 0 ≡ get_or t'.values (row s.slot + o.number) 0

abbrev pub SameUndo : Table → Table → Sleeper → Operation → Type 0
SameUndo t t' s o = get_or t.adjustments (undo_row s.process s.slot + o.number) (pos 0) ≡ get_or t'.adjustments (undo_row s.process s.slot + o.number) (pos 0)

module _ {sets : List Set} (counts : All (λ (k : Set). k.count ≤ semaphores) sets) where
  pub count_fits : (slot : ℕ) → count_at sets slot ≤ semaphores
  count_fits slot = all_get_d (λ (k : Set). k.count ≤ semaphores) sets slot no_set counts (omega arith)

  pub numbers_fit : (s : Sleeper) → Fits sets s → All (λ (o : Operation). o.number < semaphores) (operations_of s.array)
  numbers_fit s f = all_map (λ o h. omega (arith, h, count_fits s.slot)) f.numbers

  module _ (t t' : Table) (s : Sleeper) (g : Good t) (g' : Good t') (f : Fits sets s) where
    pub look_same : All (SameValue t t' s) (operations_of s.array) → All (SameUndo t t' s) (operations_of s.array) → Agreed (look t s) (look t' s)
    unfolding look
    look_same hv hu =
        judge_local (copies_of t s) (copies_of t' s) (operations_of s.array) (copies_of t s) (copies_of t' s) 0
        (record { values = a.values ∙ sym b.values; adjustments = a.adjustments ∙ sym b.adjustments })
        (all_zip3 alike (numbers_fit s f) hv hu)
      where
        a : Fine (copies_of t s)
        a = copies_fine t s g f

        b : Fine (copies_of t' s)
        b = copies_fine t' s g' f

        alike : (o : Operation) → o.number < semaphores → SameValue t t' s o → SameUndo t t' s o → SameFor (copies_of t s) (copies_of t' s) o
        alike o h v u =
            record {
              value = get_d_values t s.slot o.number h ∙ v ∙ sym (get_d_values t' s.slot o.number h);
              adjustment = get_d_adjustments t s.process s.slot o.number h ∙ u ∙ sym (get_d_adjustments t' s.process s.slot o.number h);
            }

    -- a sleeper who could not finish still cannot
    pub still_stuck : All (SameValue t t' s) (operations_of s.array) → All (SameUndo t t' s) (operations_of s.array)
        → could_finish t s ≡ false → could_finish t' s ≡ false
    still_stuck hv hu e = rw (← (look_same hv hu).outcome) e

    -- .. one who names no value that differs
    pub unconcerned_stuck : has_bit (named s) (differing 0 0 (values_of t s.slot) (values_of t' s.slot)) ≡ false
        → ((o : Operation) → o.number < semaphores → SameUndo t t' s o) → could_finish t s ≡ false → could_finish t' s ≡ false
    unconcerned_stuck h hu = still_stuck (all_zip same (numbers_fit s f) (untouched s _ h)) (all_map hu (numbers_fit s f))
      where
        same : (o : Operation) → o.number < semaphores → bit (differing 0 0 (values_of t s.slot) (values_of t' s.slot)) o.number ≡ 0 → SameValue t t' s o
        same o hn off =
            let z : 0 + o.number ≡ o.number = omega arith in
            sym (get_d_values t s.slot o.number hn)
            ∙ differing_off 0 0 (values_of t s.slot) (values_of t' s.slot) o.number (length_values t g s.slot f.slot ∙ sym (length_values t' g' s.slot f.slot)) (rw z off)
            ∙ get_d_values t' s.slot o.number hn

-- ---- what another sleeper's array leaves

module _ {sets : List Set} (t : Table) (p q : Sleeper) (g : Good t) (fp : Fits sets p) (fq : Fits sets q) where
  -- the adjustments of other processes
  pub applied_undo : (c : Copies) → Fine c → Other p q → (o : Operation) → o.number < semaphores → SameUndo t (applied t p c) q o
  unfolding applied
  applied_undo c k other o h =
      let sp : p.slot < slots = fp.slot in
      let sq : q.slot < slots = fq.slot in
      let np : p.process ≤ processes = fp.last in
      let lp : 1 ≤ p.process = fp.process in
      let lq : 1 ≤ q.process = fq.process in
      sym
      (get_d_paste_beside t.adjustments (undo_row p.process p.slot) c.adjustments semaphores (undo_row q.process q.slot + o.number) (pos 0)
      (omega (arith, g.adjustments)) (omega (arith, k.adjustments)) (λ e. omega (arith, other)))

  -- the values of other sets
  pub applied_value : (c : Copies) → Fine c → q.slot ≢ p.slot → (o : Operation) → o.number < semaphores → SameValue t (applied t p c) q o
  unfolding applied
  applied_value c k other o h =
      let sp : p.slot < slots = fp.slot in
      sym
      (get_d_paste_beside t.values (row p.slot) c.values semaphores (row q.slot + o.number) 0 (omega (arith, g.values)) (omega (arith, k.values))
      (λ e. omega (arith, other)))

  pub after_undo : (x : Outcome) (c : Copies) → Fine c → Other p q → (o : Operation) → o.number < semaphores → SameUndo t (after t p x c) q o
  unfolding after
  after_undo Done c k other o h = applied_undo c k other o h
  after_undo Sleep c k other o h = refl
  after_undo Again c k other o h = refl
  after_undo Range c k other o h = refl

  pub after_value : (x : Outcome) (c : Copies) → Fine c → q.slot ≢ p.slot → (o : Operation) → o.number < semaphores → SameValue t (after t p x c) q o
  unfolding after
  after_value Done c k other o h = applied_value c k other o h
  after_value Sleep c k other o h = refl
  after_value Again c k other o h = refl
  after_value Range c k other o h = refl
