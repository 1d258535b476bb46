use mathlib.Core.Path.{refl}
use native.Mathlib.Omega.{arith}
use Rattle.runfile.specs.declared.bodies.Kind.TheVariants.{Create, Operate, SetValue, Remove, Signal, Exit, Query, OperateWithin, Clock, SetAll, ReadAll, ActAs}
use Rattle.runfile.proofs.bodies.KindTryFromU8.try_from.Goals as goal

pub returns-in_default : goal.returns-in_default
returns-in_default c = (
  refl,
  elim [
    | Create ↦ (λ e. absurd (omega arith))
    | Operate ↦ (λ e. absurd (omega arith))
    | SetValue ↦ (λ e. absurd (omega arith))
    | Remove ↦ (λ e. absurd (omega arith))
    | Signal ↦ (λ e. absurd (omega arith))
    | Exit ↦ (λ e. absurd (omega arith))
    | Query ↦ (λ e. absurd (omega arith))
    | OperateWithin ↦ (λ e. absurd (omega arith))
    | Clock ↦ (λ e. absurd (omega arith))
    | SetAll ↦ (λ e. absurd (omega arith))
    | ReadAll ↦ (λ e. absurd (omega arith))
    | ActAs ↦ (λ e. absurd (omega arith))
  ],
)
