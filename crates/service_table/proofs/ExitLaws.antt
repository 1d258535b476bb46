-- Exit, one slot after the other: the tables on the way, their masks, and the loop.
use Prim.Native.Nat.{ℕ, zero, suc, ◌+◌, ◌≤◌, ◌<◌}
use native.Mathlib.Nat.{not-suc-le-zero, le_of_suc-le-suc, add-zero}
use native.Mathlib.Omega.{arith}
use mathlib.Core.Path.{◌≡◌, refl, sym, ap, ap₂, subst, ◌∙◌}
use mathlib.Core.List.{List, append-nil}
use lib.IntN.{ℤ, pos}
use lib.ListN.{length, get_or, set, take, drop, replicate, drop_of_length-le}
use lib.Seq.{slice, paste, paste-zero, take_all, take-take, take-paste}
use Rattle.model.specs.Limits.{slots, semaphores, all_semaphores, all_adjustments}
use Rattle.model.specs.State.{Table, with_values, with_adjustments, row, undo_row}
use Rattle.model.specs.Look.{values_of, adjustments_of}
use Rattle.model.specs.Marks.{differing}
use Rattle.model.specs.Events.{undo_all, exited, touched_from}
use Rattle.model.specs.Invariant.{Good}
use Rattle.host.specs.Holding.{Host, table_in}
use Rattle.host.proofs.RowLaws.{from_slice, Reading, read_none, read_more, read_all}
use Rattle.service_table.specs.Numbered.{IsProcess}
use Rattle.service_table.specs.Written.{tabled, exited_at}
use Rattle.service_table.proofs.Lists.{part_slice, slice_part, slice_behind, paste_behind, same_part}
use Rattle.service_table.proofs.WrittenLaws.{tabled_same, tabled_again}
use Rattle.service_table.proofs.UndoLaws.{length_undone, undone_drop, undone_take, exited_at_good}

module _ (t : Table) (p : ℕ) where
  -- the adjustments of the process for all slots, and all values with them
  abbrev start : ℕ
  start = undo_row p 0

  abbrev undo : List ℤ
  undo = slice start (start + all_semaphores) t.adjustments

  abbrev zeros : List ℤ
  zeros = replicate all_semaphores (pos 0)

  abbrev sums : List ℕ
  sums = undo_all t.values undo

  -- the table once the first k slots are done
  abbrev pub exited_to : ℕ → Table
  exited_to k = with_adjustments (with_values t (paste t.values 0 sums (row k))) (paste t.adjustments start zeros (row k))

  pub exited_none : t ≡ exited_to 0
  exited_none =
      ap₂ (λ (v : List ℕ) (a : List ℤ). with_adjustments (with_values t v) a)
      (paste-zero t.values 0 sums) (paste-zero t.adjustments start zeros)

  module _ (hp : IsProcess p) (lv : length t.values ≡ all_semaphores) (la : length t.adjustments ≡ all_adjustments) where
    room : start + all_semaphores ≤ length t.adjustments
    room = omega (arith, hp.least, hp.most)

    long : length sums ≡ all_semaphores
    long = length_undone t.values undo ∙ lv

    pub exited_all : exited_to slots ≡ exited t p
    unfolding exited
    exited_all =
        ap (λ (v : List ℕ). with_adjustments (with_values t v) (paste t.adjustments start zeros all_semaphores))
        (rw (take_all all_semaphores sums (omega (arith, long)), drop_of_length-le t.values {i = all_semaphores} (omega arith)) (append-nil sums))

    module _ (k : ℕ) (l : k < slots) where
      -- the numbers of the next slot are still as they were
      same_values : values_of (exited_to k) k ≡ values_of t k
      unfolding values_of
      same_values = slice_behind t.values 0 sums (row k) (omega arith) (omega (arith, long)) semaphores (row k) (omega arith)

      same_undo : adjustments_of (exited_to k) p k ≡ adjustments_of t p k
      unfolding adjustments_of
      same_undo = slice_behind t.adjustments start zeros (row k) (omega (arith, room)) (omega arith) semaphores (undo_row p k) (omega arith)

      -- the sums of that slot
      part : undo_all (values_of t k) (adjustments_of t p k) ≡ take semaphores (drop (row k) sums)
      unfolding values_of adjustments_of
      part =
          sym
          (ap (λ (r : List ℕ). take semaphores r) (undone_drop (row k) t.values undo)
          ∙ undone_take semaphores (drop (row k) t.values) (drop (row k) undo)
          ∙ ap₂ undo_all (part_slice semaphores t.values (row k) (omega arith)) (slice_part start all_semaphores (row k) semaphores (undo_row p k) t.adjustments room (omega arith) (omega arith)))

      -- one slot more
      pub exited_more : exited_at (exited_to k) p k ≡ exited_to (k + 1)
      unfolding exited_at
      exited_more =
          let s = ap₂ undo_all same_values same_undo ∙ part in
          ap₂ (λ (v : List ℕ) (a : List ℤ). with_adjustments (with_values t v) a)
          (paste_behind t.values 0 sums (row k) (omega arith) (omega (arith, long)) semaphores (row k) (omega arith) (undo_all (values_of (exited_to k) k) (adjustments_of (exited_to k) p k)) (row (k + 1)) (omega arith) (ap (λ (r : List ℕ). take semaphores r) s ∙ take-take semaphores semaphores (drop (row k) sums) (omega arith)))
          (paste_behind t.adjustments start zeros (row k) (omega (arith, room)) (omega arith) semaphores (undo_row p k) (omega arith) (replicate semaphores (pos 0)) (row (k + 1)) (omega arith) (same_part (pos 0) all_semaphores (row k) semaphores (omega arith)))

      -- its values are then those of the end
      same_end : values_of (exited_to (k + 1)) k ≡ values_of (exited t p) k
      unfolding values_of exited
      same_end =
          let e : row k + semaphores ≡ 0 + row (k + 1) = omega arith in
          let f : row (k + 1) ≡ row k + semaphores = omega arith in
          ap (λ (r : List ℕ). drop (row k) r)
          (ap (λ (n : ℕ). take n (paste t.values 0 sums (row (k + 1)))) e
          ∙ take-paste t.values 0 sums (row (k + 1)) (omega arith) (omega (arith, long))
          ∙ ap (λ (n : ℕ). take n sums) f)

      pub same_mask : differing 0 0 (values_of (exited_to k) k) (values_of (exited_at (exited_to k) p k) k) ≡ differing 0 0 (values_of t k) (values_of (exited t p) k)
      same_mask = ap₂ (λ (x y : List ℕ). differing 0 0 x y) same_values (ap (λ (y : Table). values_of y k) exited_more ∙ same_end)

-- ---- the loop

pub touched_at : (n s k : ℕ) (t t' : Table) → k < n → get_or (touched_from n s t t') k 0 ≡ differing 0 0 (values_of t (s + k)) (values_of t' (s + k))
unfolding touched_from
touched_at zero s k t t' h = absurd (not-suc-le-zero h)
touched_at (suc n) s zero t t' h = rw add-zero
touched_at (suc n) s (suc k) t t' h = let e : s + suc k ≡ s + 1 + k = omega arith in rw e (touched_at n (s + 1) k t t' (le_of_suc-le-suc h))

touched_size : (t t' : Table) → length (touched_from slots 0 t t') ≡ slots
unfolding touched_from
touched_size t t' = refl

-- the first k slots of t are done: the table is u, and their masks are in touched
pub record Exiting (t : Table) (p k : ℕ) (u : Table) (touched : List ℕ) : Type 0 where
  pub table : u ≡ exited_to t p k
  pub good : Good u
  pub masks : Reading 0 slots 0 (touched_from slots 0 t (exited t p)) touched k

module _ (t : Table) (g : Good t) (p : ℕ) where
  pub exiting_first : (touched : List ℕ) → length touched ≡ slots → Exiting t p 0 t touched
  exiting_first touched e = record { table = exited_none t p; good = g; masks = read_none 0 slots 0 _ touched e }

  module _ (hp : IsProcess p) {k : ℕ} {u : Table} {touched : List ℕ} (h : Exiting t p k u touched) where
    pub exiting_more : (u' : Table) (mask : ℕ) → k < slots → u' ≡ exited_at u p k → mask ≡ differing 0 0 (values_of u k) (values_of (exited_at u p k) k)
        → Exiting t p (k + 1) u' (set touched k mask)
    exiting_more u' mask l e m =
        let z : 0 + k ≡ k = omega arith in
        let same = ap (λ (y : Table). differing 0 0 (values_of y k) (values_of (exited_at y p k) k)) h.table ∙ same_mask t p hp g.values g.adjustments k l in
        record {
          table = e ∙ ap (λ (y : Table). exited_at y p k) h.table ∙ exited_more t p hp g.values g.adjustments k l;
          good = subst Good (sym e) (exited_at_good u p k hp l h.good);
          masks = read_more mask h.masks l (m ∙ same ∙ sym (rw z (rw z at (touched_at slots 0 k t (exited t p) l))));
        }

    pub exiting_table : slots ≤ k → u ≡ exited t p
    exiting_table l =
        let e : k ≡ slots = omega (arith, h.masks.within) in
        h.table ∙ ap (exited_to t p) e ∙ exited_all t p hp g.values g.adjustments

    pub exiting_masks : slots ≤ k → touched ≡ touched_from slots 0 t (exited t p)
    exiting_masks l =
        let n = touched_size t (exited t p) in
        read_all h.masks l ∙ from_slice 0 slots 0 (touched_from slots 0 t (exited t p)) (omega arith) ∙ take_all slots (touched_from slots 0 t (exited t p)) (omega arith)

-- the same of a host: y is x, with the first k slots done
pub record Undoing (x : Host) (p k : ℕ) (y : Host) (touched : List ℕ) : Type 0 where
  pub host : y ≡ tabled x (table_in y)
  pub tables : Exiting (table_in x) p k (table_in y) touched

module _ (x : Host) (g : Good (table_in x)) (p : ℕ) where
  pub undoing_first : (touched : List ℕ) → length touched ≡ slots → Undoing x p 0 x touched
  undoing_first touched e = record { host = tabled_same x; tables = exiting_first (table_in x) g p touched e }

  module _ (hp : IsProcess p) {k : ℕ} {y : Host} {touched : List ℕ} (h : Undoing x p k y touched) where
    pub undoing_more : (y' : Host) (mask : ℕ) → k < slots → y' ≡ tabled y (exited_at (table_in y) p k)
        → mask ≡ differing 0 0 (values_of (table_in y) k) (values_of (exited_at (table_in y) p k) k) → Undoing x p (k + 1) y' (set touched k mask)
    undoing_more y' mask l e m =
        let f : table_in y' ≡ exited_at (table_in y) p k = ap table_in e in
        record {
          host = e ∙ ap (λ (w : Host). tabled w (exited_at (table_in y) p k)) h.host ∙ tabled_again x (table_in y) (exited_at (table_in y) p k) ∙ ap (λ (u : Table). tabled x u) (sym f);
          tables = exiting_more (table_in x) g p hp h.tables (table_in y') mask l f m;
        }

    pub undoing_host : slots ≤ k → y ≡ tabled x (exited (table_in x) p)
    undoing_host l = h.host ∙ ap (λ (u : Table). tabled x u) (exiting_table (table_in x) g p hp h.tables l)

    pub undoing_masks : slots ≤ k → touched ≡ touched_from slots 0 (table_in x) (exited (table_in x) p)
    undoing_masks l = exiting_masks (table_in x) g p hp h.tables l
