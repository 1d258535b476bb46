use Prim.Native.Nat.{◌≤◌, ◌+◌}
use mathlib.Core.Path.{◌≡◌}
use lib.ListN.{length}
use Rattle.runfile.specs.File.{bodies_of, bad_code, code_in}
use Rattle.runfile.proofs.Loops.{table_from, code_from}
use Rattle.runfile.proofs.table.check_bodies.Given as goal

-- `runfile::table::check_bodies` meets its contract. The loop's invariant: the code of all bodies is that of those which are
-- left, due at `at` and behind the code so far.
abbrev pub invariant-loop-entry : goal.invariant-loop-entry
invariant-loop-entry l =
    (l.at ≤ length l.file + 131070) × (bad_code (bodies_of l.file l.n) ≡ code_from l.file (code_in l.bodies) l.at (table_from l.file l.n l.entry-index))
