-- Values put one behind the other, as a loop over their bytes does it.
use Prim.Native.Nat.{ℕ, suc, ◌+◌, ◌/◌, ◌≤◌, ◌<◌}
use native.Mathlib.Numerals.{add-one}
use native.Mathlib.Omega.{arith}
use mathlib.Core.Path.{◌≡◌, sym, ap, ◌∙◌}
use mathlib.Core.List.{List, [], ◌∷◌}
use lib.ListN.{length, get_or, set, drop, drop_of_length-le}
use lib.Seq.{sets, drop-cons}
use Rattle.model.specs.Limits.{value_bytes}
use Rattle.model.specs.Values.{values_in}
use Rattle.host.specs.Parts.{values, Row, with, put}
use Rattle.host.proofs.PartLaws.{with_again, with_same, with_here}
use Rattle.judging.specs.Value.{values_held}
use Rattle.judging.proofs.Settings.{length_held}
use Rattle.service_table.specs.Written.{with_values_from}

-- the values from the n-th on, as semaphores hold them
abbrev pub held_from : List ℕ → ℕ → List ℕ
held_from bytes n = drop n (values_held (values_in bytes))

-- one value more
one_more : (r : Row) (at v : ℕ) (vs : List ℕ) → with_values_from (put r values at v) (at + 1) vs ≡ with_values_from r at (v ∷ vs)
one_more r at v vs =
    with_again r values (set (r values) at v) _
    ∙ ap (λ (l : List ℕ). with r values (sets l (at + 1) vs)) (with_here r values (set (r values) at v))
    ∙ ap (λ (n : ℕ). with r values (sets (set (r values) at v) n vs)) (add-one at)

module _ (bytes : List ℕ) where
  pub put_more : (r r' : Row) (at n : ℕ) {v : ℕ} → n < length bytes / value_bytes → r' ≡ put r values (at + n) v → v ≡ get_or (values_held (values_in bytes)) n 0
      → with_values_from r' (at + (n + 1)) (held_from bytes (n + 1)) ≡ with_values_from r (at + n) (held_from bytes n)
  put_more r r' at n {v} h e f =
      let a : at + (n + 1) ≡ at + n + 1 = omega arith in
      let d : held_from bytes n ≡ get_or (values_held (values_in bytes)) n 0 ∷ drop (suc n) (values_held (values_in bytes)) = drop-cons (values_held (values_in bytes)) n 0 (omega (arith, length_held bytes)) in
      rw (a, d, add-one n, e, ← f) (one_more r (at + n) v (drop (suc n) (values_held (values_in bytes))))

  pub put_end : (r : Row) (at n : ℕ) → length bytes / value_bytes ≤ n → with_values_from r at (held_from bytes n) ≡ r
  put_end r at n h = let d : held_from bytes n ≡ [] = drop_of_length-le (values_held (values_in bytes)) {i = n} (omega (arith, length_held bytes)) in rw d (sym (with_same r values))
