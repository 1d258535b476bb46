use mathlib.Core.Path.{◌≡◌}
use lib.ListN.{drop}
use Rattle.model.specs.Marks.{differing}
use Rattle.service_table.proofs.differing_mask.Given as goal

-- `differing_mask` meets its contract: the mask so far, with what the rest of the rows adds, is the whole mask.
abbrev pub invariant-loop-i : goal.invariant-loop-i
invariant-loop-i l = differing l.mask l.i (drop l.i l.value-items) (drop l.i l.after) ≡ differing 0 0 l.value-items l.after
