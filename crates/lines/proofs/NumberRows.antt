-- The numbers of a line, one more at a time.
use Prim.Native.Nat.{ℕ, ◌+◌, ◌<◌}
use mathlib.Core.Path.{◌≡◌, refl, ap}
use mathlib.Core.List.{List, [], ◌∷◌, ◌++◌, append_assoc, append-nil}
use native.Mathlib.Numerals.{add-one}
use lib.ListN.{length, get_or, take}
use lib.Seq.{take-suc}
use Rattle.lines.specs.Text.{blank, digits_of, numbers_text}

numbers_append : (a b : List ℕ) → numbers_text (a ++ b) ≡ numbers_text a ++ numbers_text b
unfolding numbers_text
numbers_append [] b = refl
numbers_append (n ∷ a) b = rw (numbers_append a b, append_assoc)

pub numbers_more : (ns : List ℕ) (k : ℕ) → k < length ns → numbers_text (take (k + 1) ns) ≡ numbers_text (take k ns) ++ (blank ∷ digits_of (get_or ns k 0))
unfolding numbers_text
numbers_more ns k h =
    rw (add-one, take-suc ns k 0 h, numbers_append)
    (ap (λ (t : List ℕ). numbers_text (take k ns) ++ t) (append-nil (blank ∷ digits_of (get_or ns k 0))))
