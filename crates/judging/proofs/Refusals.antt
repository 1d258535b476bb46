-- The code of the first check of operations that applies, one operation at a time.
use mathlib.Core.Path.{◌≡◌, refl, sym}
use mathlib.Core.Bool.{Bool, true, false, cond, not, ◌&&◌}
use mathlib.Core.List.{List}
use Prim.Native.Nat.{ℕ, ◌+◌, ◌*◌, ◌/◌, ◌<◌}
use lib.Dec.{leb}
use lib.ListN.{length}
use borrow.Author.Tests.{not-false}
use Rattle.model.specs.declared.Operation.{Operation}
use Rattle.model.specs.Operation.{operation_at, is_zero}
use Rattle.model.specs.Checks.{check, number_too_high, permitted}
use Rattle.judging.proofs.Operations.{rest, first, none}
use Rattle.judging.proofs.Signed.{clash}

-- the code of operations at a set of so many semaphores, by one who reads and alters so, as those before them were allowed or not
abbrev pub refusal : ℕ → Bool → Bool → Bool → List Operation → ℕ
refusal count reads alters allowed os = check (number_too_high count os) 27 (check (not (allowed && permitted reads alters os)) 13 0)

joined : (a b c : Bool) → (a && b) && c ≡ a && (b && c)
joined true b c = refl
joined false b c = refl

-- one that may both may either
pub both_allowed : (reads alters zero : Bool) → reads && alters ≡ true → true ≡ cond zero reads alters
both_allowed true b true h = refl
both_allowed true b false h = sym h
both_allowed false b z h = clash h

pub both_is : (reads alters zero : Bool) → not (reads && alters) ≡ false → true ≡ cond zero reads alters
both_is reads alters zero e = both_allowed reads alters zero (not-false _ e)

pub and_true : (b : Bool) → b && true ≡ b
and_true true = refl
and_true false = refl

module _ (count : ℕ) (reads alters : Bool) (bytes : List ℕ) (i : ℕ) (allowed : Bool) where
  module _ (o : Operation) (h : i < length bytes / 6) (eo : o ≡ operation_at bytes (i * 6)) where
    pub high : leb count o.number ≡ true → 27 ≡ refusal count reads alters allowed (rest bytes i)
    unfolding number_too_high
    high e = rw (first bytes i h, rw eo at e)

    pub on : leb count o.number ≡ false → (may : Bool) → may ≡ cond (is_zero o.amount) reads alters
        → refusal count reads alters (allowed && may) (rest bytes (i + 1)) ≡ refusal count reads alters allowed (rest bytes i)
    unfolding number_too_high permitted
    on e may m = rw (first bytes i h, rw eo at e, ← (rw eo at m), joined allowed may (permitted reads alters (rest bytes (i + 1))))

  pub end : i ≡ length bytes / 6 → (b : Bool) → allowed ≡ b → cond b 0 13 ≡ refusal count reads alters allowed (rest bytes i)
  unfolding number_too_high permitted
  end e true a = rw (none bytes i e, a)
  end e false a = rw (none bytes i e, a)
