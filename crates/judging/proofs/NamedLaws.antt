-- The mask of named semaphores: the model's, where no number is too high; and the loop that gathers it.
use Prim.Native.Nat.{ℕ, ◌+◌, ◌*◌, ◌/◌, ◌^◌, ◌<◌}
use native.Mathlib.Nat.{mod-eq_of_lt}
use mathlib.Core.Path.{◌≡◌, refl}
use mathlib.Core.List.{List, [], ◌∷◌}
use lib.Bits.{bit_or}
use lib.ListN.{length}
use Rattle.model.specs.declared.Operation.{Operation}
use Rattle.model.specs.Limits.{semaphores}
use Rattle.model.specs.Operation.{operation_at}
use Rattle.model.specs.Marks.{named_by}
use Rattle.model.specs.Runs.{All}
use Rattle.model.proofs.Lists as all
use Rattle.judging.specs.Named.{number_bit, named_within}
use Rattle.judging.proofs.Operations.{rest, first, none}

pub named_within_lem : (m : ℕ) (os : List Operation) → All (λ (o : Operation). o.number < semaphores) os → named_within m os ≡ named_by m os
unfolding named_within named_by
named_within_lem m [] h = refl
named_within_lem m (o ∷ os) h = rw (mod-eq_of_lt (all.first h)) (named_within_lem (bit_or m (2 ^ o.number)) os (all.rest h))

-- ---- the loop's turns: o is the i-th operation of the bytes

module _ (bytes : List ℕ) (m i : ℕ) where
  pub more : (o : Operation) → i < length bytes / 6 → o ≡ operation_at bytes (i * 6) → named_within (bit_or m (number_bit o.number)) (rest bytes (i + 1)) ≡ named_within m (rest bytes i)
  unfolding named_within
  more o h eo = rw (first bytes i h, eo)

  pub done : i ≡ length bytes / 6 → named_within m (rest bytes i) ≡ m
  unfolding named_within
  done e = rw (none bytes i e)
