-- The size of a body, what it hands on, and its event, by its kind.
use Prim.Native.Nat.{ℕ, ◌*◌, ◌≤◌, ◌<◌}
use mathlib.Core.Path.{◌≡◌, sym}
use mathlib.Core.Bool.{cond}
use mathlib.Core.List.{List, []}
use native.Mathlib.Nat.{mul-le-mul_right}
use native.Mathlib.Omega.{arith}
use lib.Dec.{eqb}
use lib.IntN.{pos}
use borrow.Author.Tests.{ne_eqb}
use Rattle.model.specs.Limits.{operation_bytes}
use Rattle.model.specs.Events.{query}
use Rattle.runfile.specs.declared.bodies.Kind.{Kind}
use Rattle.runfile.specs.declared.bodies.Kind.TheVariants.{Create, Operate, SetValue, Remove, Signal, Exit, Query, OperateWithin, Clock, SetAll, ReadAll, ActAs}
use Rattle.runfile.specs.Body.{create_kind, operate_kind, set_value_kind, remove_kind, signal_kind, exit_kind, query_kind, operate_within_kind, clock_kind, set_all_kind, read_all_kind, act_as_kind, fixed_of, each_of, kind_in, number_in, size_in, handed_in, event_in}
use Rattle.runfile.specs.Kinds.{number_of}

-- what a body has of its operations or values, at most six bytes each, is 1,530 bytes at most
pub few : {each number : ℕ} → each ≤ operation_bytes → number < 256 → each * number < 2048
few {number = number} e n = omega (arith, mul-le-mul_right number e)

-- ---- a number of no kind

module _ (n : ℕ) (no : (kind : Kind) → number_of kind ≡ n → ⊥) where
  none_of_all : {A : Type 0} (a b c d e f g h i j k l : A) {z : A} →
      cond (eqb n create_kind) a
      (cond (eqb n operate_kind) b
      (cond (eqb n set_value_kind) c
      (cond (eqb n remove_kind) d
      (cond (eqb n signal_kind) e
      (cond (eqb n exit_kind) f
      (cond (eqb n query_kind) g
      (cond (eqb n operate_within_kind) h
      (cond (eqb n clock_kind) i
      (cond (eqb n set_all_kind) j
      (cond (eqb n read_all_kind) k
      (cond (eqb n act_as_kind) l
      z))))))))))) ≡ z
  none_of_all a b c d e f g h i j k l =
      rw (
        ne_eqb n create_kind (λ e. no Create (sym e)),
        ne_eqb n operate_kind (λ e. no Operate (sym e)),
        ne_eqb n set_value_kind (λ e. no SetValue (sym e)),
        ne_eqb n remove_kind (λ e. no Remove (sym e)),
        ne_eqb n signal_kind (λ e. no Signal (sym e)),
        ne_eqb n exit_kind (λ e. no Exit (sym e)),
        ne_eqb n query_kind (λ e. no Query (sym e)),
        ne_eqb n operate_within_kind (λ e. no OperateWithin (sym e)),
        ne_eqb n clock_kind (λ e. no Clock (sym e)),
        ne_eqb n set_all_kind (λ e. no SetAll (sym e)),
        ne_eqb n read_all_kind (λ e. no ReadAll (sym e)),
        ne_eqb n act_as_kind (λ e. no ActAs (sym e)),
      )

  fixed_none : fixed_of n ≡ 0
  unfolding fixed_of
  fixed_none = none_of_all _ _ _ _ _ _ _ _ _ _ _ _

  each_none : each_of n ≡ 0
  unfolding each_of
  each_none = rw (ne_eqb n operate_kind (λ e. no Operate (sym e)), ne_eqb n operate_within_kind (λ e. no OperateWithin (sym e)), ne_eqb n set_all_kind (λ e. no SetAll (sym e)))

module _ (body : List ℕ) (no : (kind : Kind) → number_of kind ≡ kind_in body → ⊥) where
  pub size_none : size_in body ≡ 0
  unfolding size_in
  size_none = rw (each_none (kind_in body) no) (omega (arith, fixed_none (kind_in body) no))

  pub hands_none : [] ≡ handed_in body
  unfolding handed_in
  hands_none = rw (each_none (kind_in body) no) (let z : 0 * number_in body ≡ 0 = omega arith in rw z)

  pub event_none : event_in body ≡ query 0 (pos 0) 0
  unfolding event_in
  event_none = none_of_all (kind_in body) no _ _ _ _ _ _ _ _ _ _ _ _
