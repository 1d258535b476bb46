use Prim.Native.Nat.{ℕ}
use mathlib.Core.Path.{◌≡◌, refl}
use Rattle.model.specs.declared.Outcome.{Outcome}
use Rattle.model.specs.declared.Outcome.TheVariants.{Done, Sleep, Again, Range}
use Rattle.std.specs.Prelude.{Some}
use Rattle.model.specs.Judge.{decided_at}
use Rattle.judging.proofs.outcome.decided.Goals as goal

-- By the four outcomes.
-- any but `Done`
other : (x : Outcome) (n : ℕ) → (x ≡ Done → ⊥) → Some n ≡ decided_at x n
unfolding decided_at
other Done n h = absurd (h refl)
other Sleep n h = refl
other Again n h = refl
other Range n h = refl

pub returns-in-Done : goal.returns-in-Done
unfolding decided_at
returns-in-Done c = rw c.in-Done.is

pub returns-in_default : goal.returns-in_default
returns-in_default c = other c.args.outcome _ c.in_default.not-Done
