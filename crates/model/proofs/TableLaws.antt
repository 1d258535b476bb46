-- What set value, set all, remove, create and exit do to the table: it stays good, and whom they leave stuck.
use Prim.Native.Nat.{ℕ, zero, suc, ◌+◌, ◌*◌, ◌-◌, ◌^◌, ◌≤◌, ◌<◌}
use native.Mathlib.Omega.{arith}
use mathlib.Core.Path.{◌≡◌, refl, sym, ap, ◌∙◌}
use mathlib.Core.Logic.{◌≢◌}
use mathlib.Core.Bool.{Bool, true, false, cond}
use mathlib.Core.List.{List, [], ◌∷◌}
use lib.ListN.{length, get_or, replicate, length-set, length-replicate}
use lib.Seq.{length-paste, length-sets, get_or-set_other}
use lib.IntN.{ℤ, pos, negsuc, nat_abs, ◌+ℤ◌}
use lib.Signed.{lt_z}
use borrow.Author.Tests.{ltb-false}
use Rattle.model.specs.declared.Set.{Set}
use Rattle.model.specs.declared.Operation.{Operation}
use Rattle.model.specs.Limits.{slots, semaphores, processes, value_max, all_semaphores, all_adjustments}
use Rattle.model.specs.State.{Table, Sleeper, row, undo_row, clear_rows, cleared}
use Rattle.model.specs.Operation.{operations_of, has_bit}
use Rattle.model.specs.Look.{values_of}
use Rattle.model.specs.Marks.{named, differing}
use Rattle.model.specs.Waking.{could_finish}
use Rattle.model.specs.Events.{clear_number, assigned, assigned_all, cut, undo_all, exited}
use Rattle.model.specs.Runs.{All, none, also}
use Rattle.model.proofs.Lists.{rest, all_map, all_zip, all_set, all_sets, all_paste, all_replicate, get_d_sets_beside, get_d_paste_beside}
use Rattle.model.specs.Invariant.{Good, Fits, Ranged}
use Rattle.model.proofs.Bits.{bit, bit_pow_same}
use Rattle.model.proofs.MarkLaws.{untouched}
use Rattle.model.proofs.JudgeLaws.{either}
use Rattle.model.proofs.LookLaws.{SameValue, SameUndo, numbers_fit, still_stuck, unconcerned_stuck}

-- the place of an adjustment tells its set and its number
place_set : (a b c i k n : ℕ) → b < slots → c < semaphores → k < slots → n < semaphores
    → (a - 1) * all_semaphores + b * semaphores + c ≡ (i - 1) * all_semaphores + k * semaphores + n → b ≡ k
place_set a b c i k n hb hc hk hn e = omega arith

place_number : (a b c i k n : ℕ) → c < semaphores → n < semaphores → (a - 1) * all_semaphores + b * semaphores + c ≡ (i - 1) * all_semaphores + k * semaphores + n → c ≡ n
place_number a b c i k n hc hn e = omega arith

-- ---- set value

length_clear_number : (i slot n : ℕ) (l : List ℤ) → length (clear_number i slot n l) ≡ length l
unfolding clear_number
length_clear_number zero slot n l = refl
length_clear_number (suc i) slot n l = length-set (clear_number i slot n l) (undo_row (suc i) slot + n) (pos 0) ∙ length_clear_number i slot n l

ranged_clear_number : (i slot n : ℕ) (l : List ℤ) → All Ranged l → All Ranged (clear_number i slot n l)
unfolding clear_number
ranged_clear_number zero slot n l h = h
ranged_clear_number (suc i) slot n l h = all_set (clear_number i slot n l) (undo_row (suc i) slot + n) (pos 0) (ranged_clear_number i slot n l h) (omega arith)

pub assigned_good : (t : Table) (slot n v : ℕ) → Good t → v ≤ value_max → Good (assigned t slot n v)
unfolding assigned
assigned_good t slot n v g h =
    record {
      values = length-set t.values (row slot + n) v ∙ g.values;
      lasts = g.lasts;
      adjustments = length_clear_number processes slot n t.adjustments ∙ g.adjustments;
      small = all_set t.values (row slot + n) v g.small h;
      ranged = ranged_clear_number processes slot n t.adjustments g.ranged;
    }

clear_number_other : (i slot n j : ℕ) (l : List ℤ) → ((i : ℕ) → j ≢ undo_row (suc i) slot + n) → get_or (clear_number i slot n l) j (pos 0) ≡ get_or l j (pos 0)
unfolding clear_number
clear_number_other zero slot n j l h = refl
clear_number_other (suc i) slot n j l h = get_or-set_other (clear_number i slot n l) (undo_row (suc i) slot + n) j (pos 0) (pos 0) (h i) ∙ clear_number_other i slot n j l h

module _ {sets : List Set} (counts : All (λ (k : Set). k.count ≤ semaphores) sets) (t : Table) (q : Sleeper) (g : Good t) (f : Fits sets q) where
  -- a sleeper none of whose operations is on the semaphore
  pub assigned_stuck : (slot n v : ℕ) → slot < slots → n < semaphores → v ≤ value_max → All (λ (o : Operation). q.slot ≡ slot → o.number ≢ n) (operations_of q.array)
      → could_finish t q ≡ false → could_finish (assigned t slot n v) q ≡ false
  unfolding assigned
  assigned_stuck slot n v hs hn hv h =
      still_stuck counts t (assigned t slot n v) q g (assigned_good t slot n v g hv) f (all_zip value (numbers_fit counts q f) h) (all_zip undo (numbers_fit counts q f) h)
    where
      value : (o : Operation) → o.number < semaphores → (q.slot ≡ slot → o.number ≢ n) → SameValue t (assigned t slot n v) q o
      value o ho k =
          sym
          (get_or-set_other t.values (row slot + n) (row q.slot + o.number) v 0
          (λ e. k (place_set 1 q.slot o.number 1 slot n f.slot ho hs hn (omega arith)) (place_number 1 q.slot o.number 1 slot n ho hn (omega arith))))

      undo : (o : Operation) → o.number < semaphores → (q.slot ≡ slot → o.number ≢ n) → SameUndo t (assigned t slot n v) q o
      undo o ho k =
          sym
          (clear_number_other processes slot n (undo_row q.process q.slot + o.number) t.adjustments
          (λ i e. k (place_set q.process q.slot o.number (suc i) slot n f.slot ho hs hn e) (place_number q.process q.slot o.number (suc i) slot n ho hn e)))

-- an array that does not name the semaphore n
pub unnamed_other : (q : Sleeper) (n : ℕ) → has_bit (named q) (2 ^ n) ≡ false → All (λ (o : Operation). o.number ≢ n) (operations_of q.array)
unnamed_other q n h = all_map (λ o e z. let b : bit (2 ^ n) n ≡ 0 = rw z at e in omega (arith, b, bit_pow_same n)) (untouched q (2 ^ n) h)

-- ---- create and remove

pub length_clear_rows : (i slot : ℕ) (l : List ℤ) → i ≤ processes → slot < slots → length l ≡ all_adjustments → length (clear_rows i slot l) ≡ all_adjustments
unfolding clear_rows
length_clear_rows zero slot l hi hs e = e
length_clear_rows (suc i) slot l hi hs e =
    let r : length (clear_rows i slot l) ≡ all_adjustments = length_clear_rows i slot l (omega arith) hs e in
    length-paste (clear_rows i slot l) (undo_row (suc i) slot) (replicate semaphores (pos 0)) semaphores (omega arith) (omega (arith, length-replicate semaphores (pos 0))) ∙ r

ranged_clear_rows : (i slot : ℕ) (l : List ℤ) → All Ranged l → All Ranged (clear_rows i slot l)
unfolding clear_rows
ranged_clear_rows zero slot l h = h
ranged_clear_rows (suc i) slot l h =
    all_paste (clear_rows i slot l) (undo_row (suc i) slot) (replicate semaphores (pos 0)) semaphores (ranged_clear_rows i slot l h) (all_replicate semaphores (pos 0) (omega arith))

pub cleared_good : (t : Table) (slot : ℕ) → Good t → slot < slots → Good (cleared t slot)
unfolding cleared
cleared_good t slot g hs =
    record {
      values = length-paste t.values (row slot) (replicate semaphores 0) semaphores (omega (arith, g.values)) (omega arith) ∙ g.values;
      lasts = length-paste t.lasts (row slot) (replicate semaphores 0) semaphores (omega (arith, g.lasts)) (omega arith) ∙ g.lasts;
      adjustments = length_clear_rows processes slot t.adjustments (omega arith) hs g.adjustments;
      small = all_paste t.values (row slot) (replicate semaphores 0) semaphores g.small (all_replicate semaphores 0 (omega arith));
      ranged = ranged_clear_rows processes slot t.adjustments g.ranged;
    }

-- ---- set all

pub assigned_all_good : (t : Table) (slot : ℕ) (vs : List ℕ) → Good t → slot < slots → All (λ (v : ℕ). v ≤ value_max) vs → Good (assigned_all t slot vs)
unfolding assigned_all
assigned_all_good t slot vs g hs small =
    record {
      values = length-sets t.values (row slot) vs ∙ g.values;
      lasts = g.lasts;
      adjustments = length_clear_rows processes slot t.adjustments (omega arith) hs g.adjustments;
      small = all_sets t.values (row slot) vs g.small small;
      ranged = ranged_clear_rows processes slot t.adjustments g.ranged;
    }

-- ---- create, remove and set all: the sleepers of other sets

pub clear_rows_other : (i slot a b c : ℕ) (l : List ℤ) → i ≤ processes → slot < slots → b < slots → c < semaphores → b ≢ slot → length l ≡ all_adjustments
    → get_or (clear_rows i slot l) (undo_row a b + c) (pos 0) ≡ get_or l (undo_row a b + c) (pos 0)
unfolding clear_rows
clear_rows_other zero slot a b c l hi hs hb hc ne e = refl
clear_rows_other (suc i) slot a b c l hi hs hb hc ne e =
    let r : length (clear_rows i slot l) ≡ all_adjustments = length_clear_rows i slot l (omega arith) hs e in
    get_d_paste_beside (clear_rows i slot l) (undo_row (suc i) slot) (replicate semaphores (pos 0)) semaphores (undo_row a b + c) (pos 0) (omega arith) (omega arith) (λ h. omega arith)
    ∙ clear_rows_other i slot a b c l (omega arith) hs hb hc ne e

module _ {sets : List Set} (counts : All (λ (k : Set). k.count ≤ semaphores) sets) (t : Table) (q : Sleeper) (g : Good t) (f : Fits sets q) (slot : ℕ) (hs : slot < slots) (ne : q.slot ≢ slot) where
  -- a sleeper of another set, where the adjustments of a slot are cleared and no value of another changes
  beside_stuck : (t' : Table) → Good t' → t'.adjustments ≡ clear_rows processes slot t.adjustments
      → ((n : ℕ) → n < semaphores → get_or t'.values (row q.slot + n) 0 ≡ get_or t.values (row q.slot + n) 0) → could_finish t q ≡ false → could_finish t' q ≡ false
  beside_stuck t' g' e same =
      still_stuck counts t t' q g g' f (all_map (λ o ho. sym (same o.number ho)) (numbers_fit counts q f)) (all_map undo (numbers_fit counts q f))
    where
      undo : (o : Operation) → o.number < semaphores → SameUndo t t' q o
      undo o ho = sym (rw e (clear_rows_other processes slot q.process q.slot o.number t.adjustments (omega arith) hs f.slot ho ne g.adjustments))

  pub cleared_stuck : could_finish t q ≡ false → could_finish (cleared t slot) q ≡ false
  unfolding cleared
  cleared_stuck =
      beside_stuck (cleared t slot) (cleared_good t slot g hs) refl
      (λ n hn. get_d_paste_beside t.values (row slot) (replicate semaphores 0) semaphores (row q.slot + n) 0 (omega (arith, g.values)) (omega arith) (λ h. omega (arith, ne)))

  pub assigned_all_stuck : (vs : List ℕ) → length vs ≤ semaphores → All (λ (v : ℕ). v ≤ value_max) vs → could_finish t q ≡ false → could_finish (assigned_all t slot vs) q ≡ false
  unfolding assigned_all
  assigned_all_stuck vs few small =
      beside_stuck (assigned_all t slot vs) (assigned_all_good t slot vs g hs small) refl
      (λ n hn. get_d_sets_beside t.values (row slot) vs (row q.slot + n) 0 (λ h. omega (arith, ne)))

-- ---- exit

length_undo_all : (v : List ℕ) (a : List ℤ) → length (undo_all v a) ≡ length v
unfolding undo_all
length_undo_all [] a = refl
length_undo_all (x ∷ v) [] = refl
length_undo_all (x ∷ v) (y ∷ a) = ap suc (length_undo_all v a)

pub cut_small : (v : ℕ) (a : ℤ) → cut v a ≤ value_max
unfolding cut
cut_small v a = go (pos v +ℤ a)
  where
    last : (n : ℕ) (b : Bool) → lt_z (pos value_max) (pos n) ≡ b → cond b value_max n ≤ value_max
    last n true e = omega arith
    last n false e = ltb-false value_max n e

    go : (z : ℤ) → cond (lt_z z (pos 0)) 0 (cond (lt_z (pos value_max) z) value_max (nat_abs z)) ≤ value_max
    go (pos n) = either (λ (x : ℕ). x ≤ value_max) (lt_z (pos n) (pos 0)) _ _ (omega arith) (last n _ refl)
    go (negsuc n) = omega arith

small_undo_all : (v : List ℕ) (a : List ℤ) → All (λ (x : ℕ). x ≤ value_max) v → All (λ (x : ℕ). x ≤ value_max) (undo_all v a)
unfolding undo_all
small_undo_all [] a h = none
small_undo_all (x ∷ v) [] h = h
small_undo_all (x ∷ v) (y ∷ a) h = also (cut_small x y) (small_undo_all v a (rest h))

pub exited_good : (t : Table) (p : ℕ) → Good t → 1 ≤ p → p ≤ processes → Good (exited t p)
unfolding exited
exited_good t p g h k =
    record {
      values = length_undo_all t.values _ ∙ g.values;
      lasts = g.lasts;
      adjustments =
          length-paste t.adjustments (undo_row p 0) (replicate all_semaphores (pos 0)) all_semaphores (omega (arith, g.adjustments)) (omega (arith, length-replicate all_semaphores (pos 0)))
          ∙ g.adjustments;
      small = small_undo_all t.values _ g.small;
      ranged = all_paste t.adjustments (undo_row p 0) (replicate all_semaphores (pos 0)) all_semaphores g.ranged (all_replicate all_semaphores (pos 0) (omega arith));
    }

module _ {sets : List Set} (counts : All (λ (k : Set). k.count ≤ semaphores) sets) (t : Table) (q : Sleeper) (g : Good t) (f : Fits sets q) where
  -- a sleeper of another process who names no value that differs
  pub exited_stuck : (p : ℕ) → 1 ≤ p → p ≤ processes → q.process ≢ p → has_bit (named q) (differing 0 0 (values_of t q.slot) (values_of (exited t p) q.slot)) ≡ false
      → could_finish t q ≡ false → could_finish (exited t p) q ≡ false
  unfolding exited
  exited_stuck p h k ne un = unconcerned_stuck counts t (exited t p) q g (exited_good t p g h k) f un undo
    where
      undo : (o : Operation) → o.number < semaphores → SameUndo t (exited t p) q o
      undo o ho =
          let sq : q.slot < slots = f.slot in
          let lq : 1 ≤ q.process = f.process in
          sym
          (get_d_paste_beside t.adjustments (undo_row p 0) (replicate all_semaphores (pos 0)) all_semaphores (undo_row q.process q.slot + o.number) (pos 0)
          (omega (arith, g.adjustments)) (omega (arith, length-replicate all_semaphores (pos 0))) (λ e. omega (arith, ne)))
