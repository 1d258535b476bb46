-- A look: the copies that are read are those of the set and the process, and what judging them on gives is how the array is judged.
use Prim.Native.Nat.{ℕ, ◌≤◌, ◌<◌}
use native.Mathlib.Omega.{arith}
use mathlib.Core.Path.{◌≡◌, ap₂, ◌∙◌}
use mathlib.Core.List.{List}
use lib.IntN.{ℤ, pos}
use lib.ListN.{length}
use Rattle.model.specs.declared.Copies.{Copies}
use Rattle.model.specs.declared.Outcome.{Outcome}
use Rattle.model.specs.Limits.{slots, semaphores, processes, all_semaphores, all_adjustments}
use Rattle.model.specs.State.{Table, Sleeper, row, undo_row}
use Rattle.model.specs.Operation.{operations_of}
use Rattle.model.specs.Judge.{judged}
use Rattle.model.specs.Look.{look, values_of, adjustments_of, copies_of}
use Rattle.host.specs.Rows.{from, undo_at}
use Rattle.host.specs.Parts.{values, row_in}
use Rattle.host.specs.Holding.{host_in, table_in}
use Rattle.host.proofs.PartLaws.{length_part}
use Rattle.host.proofs.RowLaws.{from_slice}
use Rattle.host.proofs.SleeperLaws.{undo_at_lem}
use Rattle.judging.specs.Walk.{walk_from}
use Rattle.judging.proofs.WalkLaws.{walked}
use Rattle.service_waking.specs.Lent.{JudgedAs}

module _ (t : Table) where
  pub values_read : (slot : ℕ) → length t.values ≡ all_semaphores → slot < slots → from 0 semaphores (row slot) t.values ≡ values_of t slot
  unfolding values_of
  values_read slot e h = from_slice 0 semaphores (row slot) t.values (omega arith)

  pub undo_read : (p slot : ℕ) → length t.adjustments ≡ all_adjustments → 1 ≤ p → p ≤ processes → slot < slots
      → from (pos 0) semaphores (undo_at p slot) t.adjustments ≡ adjustments_of t p slot
  unfolding adjustments_of
  undo_read p slot e a b h = rw (undo_at_lem p slot a b h) (from_slice (pos 0) semaphores (undo_row p slot) t.adjustments (omega arith))

-- the copies as they were read, walked over
pub judged_as : (t : Table) (s : Sleeper) (bytes vs : List ℕ) (us : List ℤ) (o : Outcome) (at : ℕ) (c : Copies)
    → bytes ≡ s.array → vs ≡ values_of t s.slot → us ≡ adjustments_of t s.process s.slot
    → judged o at c ≡ walk_from (operations_of bytes) (record { values = vs; adjustments = us }) 0 → JudgedAs t s o at c
unfolding look
judged_as t s bytes vs us o at c eb ev eu e =
    let w = walked (copies_of t s) (operations_of s.array) o at c
    (e ∙ ap₂ (λ (l : List ℕ) (k : Copies). walk_from (operations_of l) k 0) eb (ap₂ (λ (v : List ℕ) (u : List ℤ). record { values = v; adjustments = u }) ev eu)) in
    record { outcome = w.outcome; position = w.position; copies = w.done }

-- the values of a slot in a lent row
pub values_in_lem : (h : List ℕ) (a : List ℤ) (slot : ℕ) → slot < slots → from 0 semaphores (row slot) (row_in h values) ≡ values_of (table_in (host_in h a)) slot
values_in_lem h a slot l = values_read (table_in (host_in h a)) slot (length_part values h) l
