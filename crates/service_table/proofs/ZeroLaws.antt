-- Adjustments that are all zero are as many zeros.
use Prim.Native.Nat.{ℕ, zero, suc}
use native.Mathlib.Nat.{suc_inj}
use native.Mathlib.Omega.{arith}
use mathlib.Core.Path.{◌≡◌, refl, ap, ap₂}
use mathlib.Core.Bool.{Bool, true, false, ◌&&◌}
use mathlib.Core.List.{List, [], ◌∷◌}
use borrow.Author.Tests.{eqb-true}
use lib.IntN.{ℤ, pos, negsuc}
use lib.ListN.{length, replicate}
use Rattle.model.specs.Operation.{is_zero}
use Rattle.service_table.specs.Written.{all_zero}

is_zero_lem : (u : ℤ) → is_zero u ≡ true → u ≡ pos 0
unfolding is_zero
is_zero_lem (pos n) e = ap pos (eqb-true n 0 e)
is_zero_lem (negsuc n) e = absurd (omega (arith, ap (λ (b : Bool). count b) e))
  where
    count : Bool → ℕ
    count true = 1
    count false = 0

pub all_zeros : (n : ℕ) (us : List ℤ) → length us ≡ n → all_zero us ≡ true → us ≡ replicate n (pos 0)
unfolding all_zero
all_zeros zero [] e h = refl
all_zeros (suc n) [] e h = absurd (omega (arith, e))
all_zeros zero (u ∷ us) e h = absurd (omega (arith, e))
all_zeros (suc n) (u ∷ us) e h = go (is_zero u) refl h (all_zeros n us (suc_inj e))
  where
    no : false ≡ true → ⊥
    no h = let z : ◌≡◌ {A = ℕ} 0 1 = cc in omega arith

    go : (b : Bool) → is_zero u ≡ b → (b && all_zero us) ≡ true → (all_zero us ≡ true → us ≡ replicate n (pos 0)) → u ∷ us ≡ replicate (suc n) (pos 0)
    go true f h more = ap₂ (λ (x : ℤ) (r : List ℤ). x ∷ r) (is_zero_lem u f) (more h)
    go false f h more = absurd (no h)
