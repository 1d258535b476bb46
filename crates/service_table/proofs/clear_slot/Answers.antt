use Prim.Native.Nat.{ℕ, ◌<◌}
use native.Mathlib.Omega.{arith}
use mathlib.Core.Path.{◌≡◌, refl, ap, ap₂, ◌∙◌}
use mathlib.Core.List.{List}
use lib.IntN.{ℤ}
use lib.ListN.{replicate}
use lib.Seq.{sets}
use Rattle.model.specs.Limits.{slots, semaphores, processes}
use Rattle.model.specs.State.{row, clear_rows, cleared}
use Rattle.host.specs.Parts.{values, lasts, Row, row_in, with}
use Rattle.host.specs.Rows.{masked}
use Rattle.host.specs.Holding.{table_in, host_in}
use Rattle.host.proofs.PartLaws.{length_part}
use Rattle.host.proofs.RowLaws.{sets_paste}
use Rattle.service_table.specs.Numbered.{IsSlot}
use Rattle.service_table.specs.Written.{tabled}
use Rattle.service_table.proofs.LastLaws.{masked_full}
use Rattle.service_table.proofs.WrittenLaws.{host_as}
use Rattle.service_table.proofs.clear_slot.Goals as goal

zeros : (h : List ℕ) (a : List ℤ) (slot : ℕ) → IsSlot slot → (r₁ r₂ : Row) (a' : List ℤ) → r₁ ≡ with (row_in h) values (sets (row_in h values) (row slot) (replicate semaphores 0))
    → r₂ ≡ with r₁ lasts (masked 255 0 semaphores (row slot) (r₁ lasts)) → a' ≡ clear_rows processes slot a → host_as r₂ a' ≡ tabled (host_in h a) (cleared (table_in (host_in h a)) slot)
unfolding cleared
zeros h a slot k r₁ r₂ a' e f g =
    let hk : slot < slots = k in
    let v = sets_paste (replicate semaphores 0) (row_in h values) (row slot) semaphores refl (omega (arith, length_part values h)) in
    let l = masked_full 0 (row slot) (row_in h lasts) ∙ sets_paste (replicate semaphores 0) (row_in h lasts) (row slot) semaphores refl (omega (arith, length_part lasts h)) in
    ap₂ host_as (f ∙ ap (λ (y : Row). with y lasts (masked 255 0 semaphores (row slot) (y lasts))) e ∙ rw (v, l)) g

pub returns : goal.returns
returns c =
    zeros c.args.host.now _ _ c.args.slot.there_is _ _ _
    c.put_values.ensures c.put_lasts.ensures c.clear_adjustments.ensures
