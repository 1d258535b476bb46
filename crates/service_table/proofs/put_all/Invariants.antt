use Prim.Native.Nat.{◌+◌}
use mathlib.Core.Path.{◌≡◌}
use Rattle.model.specs.State.{row}
use Rattle.model.specs.Values.{values_in}
use Rattle.host.specs.Parts.{row_in}
use Rattle.judging.specs.Value.{values_held}
use Rattle.service_table.specs.Written.{with_values_from}
use Rattle.service_table.proofs.SettingLaws.{held_from}
use Rattle.service_table.proofs.put_all.Given as goal

-- `put_all` meets its contract: the row with the values from here on is the row with all of them.
abbrev pub invariant-loop-n : goal.invariant-loop-n
invariant-loop-n l = with_values_from (row_in l.host) (row l.slot.index + l.n) (held_from l.bytes l.n) ≡ with_values_from (row_in l.initial.host) (row l.slot.index) (values_held (values_in l.bytes))
