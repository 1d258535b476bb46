use mathlib.Core.Path.{refl, ap₂}
use mathlib.Core.List.{List}
use lib.IntN.{ℤ}
use Rattle.host.specs.Parts.{Row}
use Rattle.wakings.specs.Wakings.{places_from, places_in, list_of}
use Rattle.vairolent.proofs.vairolent_fresh.Goals as goal

pub returns : goal.returns
unfolding places_in places_from list_of
returns c = record { adjustments_value = ap₂ (λ (r : Row) (a : List ℤ). record { row = r; adjustments = a }) c.fresh.ensures c.no_adjustments.ensures; wakings_value = refl }
