use mathlib.Core.Path.{◌≡◌, refl, ◌∙◌}
use mathlib.Core.Bool.{Bool, true, false, ◌&&◌}
use native.Mathlib.Omega.{arith}
use Prim.Native.Nat.{ℕ}
use lib.Dec.{ltb, leb}
use lib.IntN.{ℤ, pos, negsuc}
use mir.Facts.{to_z-of_z}
use borrow.Author.Tests.{ltb-true, ltb-false, le-ltb, le-leb, lt-leb}
use Rattle.std.specs.Ordering.{is_le, int_cmp}
use Rattle.model.specs.Checks.{in_range}
use Rattle.judging.proofs.identifier.in_range.Goals as goal

-- the order of std, as a test of at most
at_most : (a b : ℕ) (t : Bool) → ltb b a ≡ t → is_le (int_cmp (pos a) (pos b)) ≡ leb a b
at_most a b true e = rw (le-ltb a b (omega (arith, ltb-true b a e)), e, lt-leb a b (omega (arith, ltb-true b a e)))
at_most a b false e = by_less (ltb a b) refl
  where
    by_less : (t : Bool) → ltb a b ≡ t → is_le (int_cmp (pos a) (pos b)) ≡ leb a b
    by_less true h = rw (h, le-leb a b (omega (arith, ltb-false b a e)))
    by_less false h = rw (h, e, le-leb a b (omega (arith, ltb-false b a e)))

-- the two ends
both : (v : ℤ) → is_le (int_cmp (pos 0) v) && is_le (int_cmp v (pos 32767)) ≡ in_range v
unfolding in_range
both (pos n) = rw (at_most 0 n (ltb n 0) refl, at_most n 32767 (ltb 32767 n) refl, le-leb 0 n (omega arith))
both (negsuc n) = refl

pub returns : goal.returns
returns c =
    rw (c.new.ensures.start, c.new.ensures.end, c.new.ensures.exhausted, to_z-of_z c.ranges.value) at c.contains.ensures.value
    ∙ both c.args.value
