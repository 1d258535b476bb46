-- The last processes of a slot's semaphores, by a mask.
use Prim.Native.Nat.{ℕ, zero, suc, ◌+◌, ◌^◌}
use native.Mathlib.Numerals.{add-one}
use native.Mathlib.Omega.{arith}
use mathlib.Core.Path.{◌≡◌, refl, ap, ◌∙◌}
use mathlib.Core.Bool.{cond}
use mathlib.Core.List.{List, [], ◌∷◌}
use lib.Bits.{bit_or}
use lib.ListN.{length, set, replicate, length-set}
use lib.Seq.{sets}
use Rattle.model.specs.declared.Operation.{Operation}
use Rattle.model.specs.Limits.{semaphores}
use Rattle.model.specs.State.{row}
use Rattle.model.specs.Operation.{has_bit}
use Rattle.model.specs.Look.{lasts_after}
use Rattle.model.specs.Marks.{named_by}
use Rattle.model.specs.Runs.{All}
use Rattle.model.proofs.Lists.{first, rest}
use Rattle.model.proofs.JudgeLaws.{either}
use Rattle.host.specs.Rows.{masked_from, masked}
use Rattle.host.proofs.SemaphoreLaws.{masked_empty, masked_or}
use Rattle.service_table.specs.Numbered.{NamesOne}

pub length_masked : (j mask x n at : ℕ) (l : List ℕ) → length (masked_from j mask x n at l) ≡ length l
unfolding masked_from
length_masked j mask x zero at l = refl
length_masked j mask x (suc n) at l =
    length_masked (j + 1) mask x n (at + 1) (cond (has_bit mask (2 ^ j)) (set l at x) l)
    ∙ either (λ (r : List ℕ). length r ≡ length l) (has_bit mask (2 ^ j)) _ _ (length-set l at x) refl

-- all eight are in the mask
pub masked_full : (x at : ℕ) (l : List ℕ) → masked 255 x semaphores at l ≡ sets l at (replicate semaphores x)
unfolding masked_from
masked_full x at l = simp add-one

-- the mask of the semaphores that operations name gives their last processes
lasts_gathered : (l : List ℕ) (slot p m : ℕ) (os : List Operation) → All NamesOne os → masked (named_by m os) p semaphores (row slot) l ≡ lasts_after (masked m p semaphores (row slot) l) slot p os
unfolding named_by lasts_after
lasts_gathered l slot p m [] h = refl
lasts_gathered l slot p m (o ∷ os) h =
    let z : 0 + o.number ≡ o.number = omega arith in
    lasts_gathered l slot p (bit_or m (2 ^ o.number)) os (rest h)
    ∙ ap (λ (r : List ℕ). lasts_after r slot p os) (rw z at (masked_or p 0 m semaphores (row slot) l o.number (first h)))

pub masked_lasts : (l : List ℕ) (slot p : ℕ) (os : List Operation) → All NamesOne os → masked (named_by 0 os) p semaphores (row slot) l ≡ lasts_after l slot p os
masked_lasts l slot p os h = lasts_gathered l slot p 0 os h ∙ ap (λ (r : List ℕ). lasts_after r slot p os) (masked_empty p 0 semaphores (row slot) l)
