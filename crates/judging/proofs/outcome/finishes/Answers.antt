use denote.Enum.Bare.{sameb}
use mathlib.Core.Path.{◌≡◌, refl, ◌∙◌}
use mathlib.Core.Bool.{not}
use Rattle.model.specs.contracts.Outcome.{the_type}
use Rattle.model.specs.declared.Outcome.{Outcome}
use Rattle.model.specs.declared.Outcome.TheVariants.{Done, Sleep, Again, Range}
use Rattle.model.specs.Judge.{finishes}
use Rattle.judging.proofs.outcome.finishes.Goals as goal

-- By the four outcomes.
by_outcome : (x : Outcome) → not (sameb the_type x Sleep) ≡ finishes x
unfolding finishes
by_outcome Done = refl
by_outcome Sleep = refl
by_outcome Again = refl
by_outcome Range = refl

pub returns : goal.returns
returns c = c.ne.ensures ∙ by_outcome c.args.outcome
