-- What the functions of the crate do to a host: its table changes, its sets and its queue stay.
use Rattle.std.specs.Prelude.{ℕ, Bool, true, ◌&&◌, List, [], ◌∷◌, ℤ, pos, replicate}
use Rattle.std.proofs.lemmas.List.Edits.{sets}
use Rattle.std.proofs.Math.Seq.{paste}
use Rattle.model.specs.declared.Copies.{Copies}
use Rattle.model.specs.Limits.{semaphores}
use Rattle.model.specs.State.{Table, with_values, with_adjustments, row, undo_row}
use Rattle.model.specs.Operation.{is_zero}
use Rattle.model.specs.Look.{values_of, adjustments_of}
use Rattle.model.specs.Events.{undo_all}
use Rattle.host.specs.Parts.{values, lasts, Row, with}
use Rattle.host.specs.Rows.{masked, undo_at}
use Rattle.host.specs.Holding.{Host, with_table}

-- a host with another table
abbrev pub tabled : Host → Table → Host
tabled x t = record { row = with_table x.row t; adjustments = t.adjustments }

-- .. with the copies of a judged array in a slot, and the process as the last of the semaphores in the mask
abbrev pub with_copies : Host → ℕ → ℕ → ℕ → Copies → Host
with_copies x process slot mask copies =
    record {
      row = with (with x.row values (sets (x.row values) (row slot) copies.values)) lasts (masked mask process semaphores (row slot) (x.row lasts));
      adjustments = sets x.adjustments (undo_at process slot) copies.adjustments;
    }

-- a row with these values in semaphores one behind the other, from a place on
abbrev pub with_values_from : Row → ℕ → List ℕ → Row
with_values_from r at vs = with r values (sets (r values) at vs)

-- a process's adjustments for one slot are added to its values, cut, and put to 0
unfoldable pub exited_at : Table → ℕ → ℕ → Table
exited_at t p slot =
    let values = paste t.values (row slot) (undo_all (values_of t slot) (adjustments_of t p slot)) semaphores in
    let adjustments = paste t.adjustments (undo_row p slot) (replicate semaphores (pos 0)) semaphores in
    with_adjustments (with_values t values) adjustments

-- are all adjustments zero?
unfoldable pub all_zero : List ℤ → Bool
all_zero [] = true
all_zero (u ∷ us) = is_zero u && all_zero us
