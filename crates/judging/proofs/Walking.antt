-- The turns of the loop over an array: o is the i-th operation of the bytes, x its outcome, and c' what it leaves.
use mathlib.Core.Path.{◌≡◌, refl, sym, ◌∙◌}
use mathlib.Core.List.{List}
use Prim.Native.Nat.{ℕ, ◌+◌, ◌*◌, ◌/◌, ◌<◌}
use lib.ListN.{length}
use Rattle.model.specs.declared.Operation.{Operation}
use Rattle.model.specs.declared.Outcome.{Outcome}
use Rattle.model.specs.declared.Outcome.TheVariants.{Done, Sleep, Again, Range}
use Rattle.model.specs.declared.Copies.{Copies}
use Rattle.model.specs.declared.Judged.{Judged}
use Rattle.model.specs.Operation.{operation_at}
use Rattle.model.specs.Judge.{judged, step}
use Rattle.judging.specs.Walk.{or_else, walk_from}
use Rattle.judging.proofs.Operations.{rest, first, none}

module _ (bytes : List ℕ) (i : ℕ) (o : Operation) (c c' : Copies) (x : Outcome)
    (h : i < length bytes / 6)
    (eo : o ≡ operation_at bytes (i * 6))
    (es : judged x i c' ≡ step c o i) where
  turned : walk_from (rest bytes i) c i ≡ or_else x (judged x i c') (walk_from (rest bytes (i + 1)) c' (i + 1))
  unfolding walk_from
  turned = rw (first bytes i h, ← eo, ← es)

  pub on : x ≡ Done → walk_from (rest bytes (i + 1)) c' (i + 1) ≡ walk_from (rest bytes i) c i
  unfolding or_else
  on e = sym (turned ∙ rw e)

  -- the outcome is any but `Done`
  pub off : (x ≡ Done → ⊥) → judged x i c' ≡ walk_from (rest bytes i) c i
  unfolding or_else
  off k = sym (turned ∙ ended x k (judged x i c') (walk_from (rest bytes (i + 1)) c' (i + 1)))
    where
      ended : (y : Outcome) → (y ≡ Done → ⊥) → (here further : Judged) → or_else y here further ≡ here
      ended Done k here further = absurd (k refl)
      ended Sleep k here further = refl
      ended Again k here further = refl
      ended Range k here further = refl

pub last : (c : Copies) (bytes : List ℕ) (i : ℕ) → i ≡ length bytes / 6 → judged Done (length bytes / 6) c ≡ walk_from (rest bytes i) c i
unfolding walk_from
last c bytes i e = rw (none bytes i e, e)
