-- Judging on copies that are lent: `judge` of the model, but that the copies are left as they stand at the operation that
-- decides. What the two have in common is in proofs/WalkLaws.antt.
use Rattle.std.specs.Prelude.{ℕ, ◌+◌, cond, List, [], ◌∷◌, ℤ}
use Rattle.model.specs.declared.Operation.{Operation}
use Rattle.model.specs.declared.Outcome.{Outcome}
use Rattle.model.specs.declared.Outcome.TheVariants.{Done, Sleep, Again, Range}
use Rattle.model.specs.declared.Copies.{Copies}
use Rattle.model.specs.declared.Judged.{Judged}
use Rattle.model.specs.Operation.{has_bit}
use Rattle.model.specs.Judge.{judged, step}

abbrev pub copies : List ℕ → List ℤ → Copies
copies values adjustments = record { values = values; adjustments = adjustments }

-- what is judged further on, if the outcome here is Done; else what is judged here
unfoldable pub or_else : Outcome → Judged → Judged → Judged
or_else Done here further = further
or_else Sleep here further = here
or_else Again here further = here
or_else Range here further = here

-- the operations from the i-th on, on what their predecessors leave
unfoldable pub walk_from : List Operation → Copies → ℕ → Judged
walk_from [] c i = judged Done i c
walk_from (o ∷ os) c i = or_else (step c o i).outcome (step c o i) (walk_from os (step c o i).copies (i + 1))

-- the outcome of an operation that stops
abbrev pub stopped : ℕ → Outcome
stopped flags = cond (has_bit flags 2048) Again Sleep
