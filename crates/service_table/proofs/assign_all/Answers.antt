use Prim.Native.Nat.{ℕ}
use mathlib.Core.Path.{◌≡◌, refl, ap₂, ◌∙◌}
use mathlib.Core.List.{List}
use lib.IntN.{ℤ}
use Rattle.model.specs.Limits.{processes}
use Rattle.model.specs.State.{row, clear_rows}
use Rattle.model.specs.Events.{assigned_all}
use Rattle.model.specs.Values.{values_in}
use Rattle.judging.specs.Value.{values_held}
use Rattle.host.specs.Parts.{Row, row_in}
use Rattle.host.specs.Holding.{table_in, host_in}
use Rattle.host.proofs.PartLaws.{by_parts}
use Rattle.service_table.specs.Written.{tabled, with_values_from}
use Rattle.service_table.proofs.WrittenLaws.{host_as}
use Rattle.service_table.proofs.assign_all.Goals as goal

given : (h : List ℕ) (a : List ℤ) (slot : ℕ) (vs : List ℕ) (r₁ : Row) (a' : List ℤ) → r₁ ≡ with_values_from (row_in h) (row slot) vs → a' ≡ clear_rows processes slot a
    → host_as r₁ a' ≡ tabled (host_in h a) (assigned_all (table_in (host_in h a)) slot vs)
unfolding assigned_all
given h a slot vs r₁ a' e f = ap₂ host_as (e ∙ by_parts _ _ refl) f

pub returns : goal.returns
returns c =
    let k = c.args in
    given k.host.now k.adjustments.now k.slot.index (values_held (values_in k.bytes.now)) _ _ c.put_all.ensures c.clear_adjustments.ensures
