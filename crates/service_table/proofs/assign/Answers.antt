use Prim.Native.Nat.{ℕ, ◌+◌}
use mathlib.Core.Path.{◌≡◌, refl, ap₂, ◌∙◌}
use mathlib.Core.List.{List}
use lib.IntN.{ℤ}
use Rattle.model.specs.Limits.{processes}
use Rattle.model.specs.State.{row}
use Rattle.model.specs.Events.{clear_number, assigned}
use Rattle.host.specs.Parts.{values, Row, row_in, put}
use Rattle.host.specs.Holding.{table_in, host_in}
use Rattle.host.proofs.PartLaws.{by_parts}
use Rattle.service_table.specs.Written.{tabled}
use Rattle.service_table.proofs.WrittenLaws.{host_as}
use Rattle.service_table.proofs.assign.Goals as goal

given : (h : List ℕ) (a : List ℤ) (slot n v : ℕ) (r₁ : Row) (a' : List ℤ) → r₁ ≡ put (row_in h) values (row slot + n) v → a' ≡ clear_number processes slot n a
    → host_as r₁ a' ≡ tabled (host_in h a) (assigned (table_in (host_in h a)) slot n v)
unfolding assigned
given h a slot n v r₁ a' e f = ap₂ host_as (e ∙ by_parts _ _ refl) f

pub returns : goal.returns
returns c =
    let k = c.args in
    given k.host.now _ k.slot.index k.number k.value _ _ c.put_value.ensures c.forget.ensures
