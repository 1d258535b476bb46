-- Elements of a list from a place on: reading them, and writing them. What lies beyond the end reads as the default and is not
-- written.
use Rattle.std.specs.Prelude.{ℕ, zero, suc, ◌+◌, ◌^◌, cond, ◌||◌, List, [], ◌∷◌, nat_le, slice_index_or, slice_set}
use Rattle.model.specs.Limits.{slots, all_adjustments}
use Rattle.model.specs.State.{undo_row}
use Rattle.model.specs.Operation.{has_bit}
use Rattle.model.specs.Checks.{no_process}

-- n elements from a place on
unfoldable pub from : {A : Type 0} → A → ℕ → ℕ → List A → List A
from d zero at l = []
from d (suc n) at l = slice_index_or l at d ∷ from d n (at + 1) l

-- of the n elements from a place on, those in the mask are x; the first number is where in the mask they begin
unfoldable pub masked_from : ℕ → ℕ → ℕ → ℕ → ℕ → List ℕ → List ℕ
masked_from j mask x zero at l = l
masked_from j mask x (suc n) at l = masked_from (j + 1) mask x n (at + 1) (cond (has_bit mask (2 ^ j)) (slice_set l at x) l)

abbrev pub masked : ℕ → ℕ → ℕ → ℕ → List ℕ → List ℕ
masked mask x n at l = masked_from 0 mask x n at l

-- where the adjustments of a process for a slot begin; beyond all of them for no process or no slot
unfoldable pub undo_at : ℕ → ℕ → ℕ
undo_at process slot = cond (no_process process || nat_le slots slot) all_adjustments (undo_row process slot)
