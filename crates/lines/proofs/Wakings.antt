-- The wakings of a line, one more at a time.
use Prim.Native.Nat.{ℕ, ◌+◌, ◌<◌}
use mathlib.Core.Path.{◌≡◌, refl, ap}
use mathlib.Core.List.{List, [], ◌∷◌, ◌++◌, append_assoc, append-nil, map, map-append}
use native.Mathlib.Numerals.{add-one}
use lib.ListN.{length, get_or, take}
use lib.Seq.{take-suc}
use Rattle.model.specs.declared.Waking.{Waking}
use Rattle.wakings.specs.Wakings.{Place, waking_in, wakings_in}
use Rattle.lines.specs.Text.{waking_text, wakings_text}

wakings_append : (a b : List Waking) → wakings_text (a ++ b) ≡ wakings_text a ++ wakings_text b
unfolding wakings_text
wakings_append [] b = refl
wakings_append (w ∷ a) b = rw (wakings_append a b, append_assoc)

-- the text of the waking at a place
abbrev pub place_text : Place → List ℕ
place_text x = waking_text (waking_in x).process (waking_in x).code (waking_in x).position

pub wakings_more : (xs : List Place) (k : ℕ) (d : Place) → k < length xs
    → wakings_text (wakings_in (k + 1) xs) ≡ wakings_text (wakings_in k xs) ++ place_text (get_or xs k d)
unfolding wakings_text wakings_in
wakings_more xs k d h =
    rw (add-one, take-suc xs k d h, map-append waking_in (take k xs) (get_or xs k d ∷ []), wakings_append)
    (ap (λ (t : List ℕ). wakings_text (map waking_in (take k xs)) ++ t) (append-nil (place_text (get_or xs k d))))
