-- A host with another table: what the functions wrote is what the model's definitions give.
use Prim.Native.Nat.{ℕ, ◌≤◌, ◌<◌}
use native.Mathlib.Omega.{arith}
use mathlib.Core.Path.{◌≡◌, refl, ap, ◌∙◌}
use mathlib.Core.List.{List}
use lib.IntN.{ℤ}
use lib.ListN.{length}
use lib.Seq.{length-sets}
use Rattle.model.specs.declared.Copies.{Copies}
use Rattle.model.specs.Limits.{slots, semaphores, processes, all_semaphores, all_adjustments}
use Rattle.model.specs.State.{Table, Sleeper, row, undo_row}
use Rattle.model.specs.Operation.{operations_of}
use Rattle.model.specs.Look.{applied}
use Rattle.model.specs.Marks.{named}
use Rattle.model.specs.Invariant.{Good}
use Rattle.host.specs.Parts.{values, lasts, Row}
use Rattle.host.specs.Rows.{undo_at}
use Rattle.host.specs.Holding.{Host, table_in, host_in}
use Rattle.host.proofs.PartLaws.{by_parts, length_part}
use Rattle.host.proofs.RowLaws.{sets_paste}
use Rattle.host.proofs.SleeperLaws.{undo_at_lem}
use Rattle.service_table.specs.Numbered.{IsSlot, IsProcess, Numbered}
use Rattle.service_table.specs.Written.{tabled, with_copies}
use Rattle.service_table.proofs.LastLaws.{length_masked, masked_lasts}

abbrev pub host_as : Row → List ℤ → Host
host_as r a = record { row = r; adjustments = a }

-- ---- one table after another

pub tabled_same : (x : Host) → x ≡ tabled x (table_in x)
tabled_same x = ap (λ (r : Row). host_as r x.adjustments) (by_parts _ _ refl)

pub tabled_again : (x : Host) (t t' : Table) → tabled (tabled x t) t' ≡ tabled x t'
tabled_again x t t' = ap (λ (r : Row). host_as r t'.adjustments) (by_parts _ _ refl)

-- ---- sizes

pub record Sized (x : Host) : Type 0 where
  pub values : length (x.row values) ≡ all_semaphores
  pub lasts : length (x.row lasts) ≡ all_semaphores
  pub adjustments : length x.adjustments ≡ all_adjustments

pub sized_in : (h : List ℕ) (a : List ℤ) → length a ≡ all_adjustments → Sized (host_in h a)
sized_in h a e = record { values = length_part values h; lasts = length_part lasts h; adjustments = e }

-- .. of a host with a good table, so of `tabled x t` where t is good
pub sized_good : (x : Host) → Good (table_in x) → Sized x
sized_good x g = record { values = g.values; lasts = g.lasts; adjustments = g.adjustments }

-- ---- the copies of a judged array

module _ (x : Host) (z : Sized x) where
  -- what `apply` writes is what the model says
  pub copies_applied : (s : Sleeper) → IsSlot s.slot → IsProcess s.process → Numbered s.array → (copies : Copies) → length copies.values ≡ semaphores
      → length copies.adjustments ≡ semaphores → (mask : ℕ) → mask ≡ named s
      → with_copies x s.process s.slot mask copies ≡ tabled x (applied (table_in x) s copies)
  unfolding applied
  copies_applied s slot process numbers copies lv lu mask e =
      let hs : s.slot < slots = slot in
      let hp : s.process ≤ processes = process.most in
      let hq : 1 ≤ s.process = process.least in
      let v = sets_paste copies.values (x.row values) (row s.slot) semaphores lv (omega (arith, z.values)) in
      let u = sets_paste copies.adjustments x.adjustments (undo_row s.process s.slot) semaphores lu (omega (arith, z.adjustments)) in
      rw (e, undo_at_lem s.process s.slot hq hp hs, v, u, masked_lasts (x.row lasts) s.slot s.process (operations_of s.array) numbers)
      (ap (λ (r : Row). host_as r (applied (table_in x) s copies).adjustments) (by_parts _ _ refl))

  pub sized_copies : (p slot mask : ℕ) (copies : Copies) → Sized (with_copies x p slot mask copies)
  sized_copies p slot mask copies =
      record {
        values = length-sets (x.row values) (row slot) copies.values ∙ z.values;
        lasts = length_masked 0 mask p semaphores (row slot) (x.row lasts) ∙ z.lasts;
        adjustments = length-sets x.adjustments (undo_at p slot) copies.adjustments ∙ z.adjustments;
      }
