-- The truth table of permission (specs/Permission.antt).
use Prim.Native.Nat.{ℕ}
use mathlib.Core.Path.{◌≡◌, refl}
use mathlib.Core.Logic.{◌≢◌}
use mathlib.Core.Bool.{true, false}
use lib.Dec.{eqb}
use borrow.Author.Tests.{eq-eqb, ne_eqb}
use Rattle.model.specs.declared.Set.{Set}
use Rattle.model.specs.declared.Caller.{Caller}
use Rattle.model.specs.Operation.{has_bit}
use Rattle.model.specs.Permission.{reading, altering, class_bits, permits, Setting, settings, Granted, ByClass}
use Rattle.model.specs.Runs.{All, none, also}

module _ (c : Caller) (k : Set) where
  -- a caller other than user 0 may do what the bits of its class say
  by_bits : (bits : ℕ) → c.user ≢ 0 → class_bits c k ≡ bits → Granted c k (has_bit bits reading) (has_bit bits altering)
  unfolding permits
  by_bits bits ne e = let z : eqb c.user 0 ≡ false = ne_eqb c.user 0 ne in record { reads = rw (z, e); alters = rw (z, e) }

  by_class : (b : Setting) → has_bit b.bits reading ≡ b.reads → has_bit b.bits altering ≡ b.alters → ByClass c k b
  unfolding class_bits permits
  by_class b r a =
      record {
        owner = λ ne o e. says ne (let x : eqb c.user k.owner ≡ true = eq-eqb c.user k.owner o in rw x e);
        group = λ ne o g e.
            says ne (let x : eqb c.user k.owner ≡ false = ne_eqb c.user k.owner o in let y : eqb c.group k.group ≡ true = eq-eqb c.group k.group g in rw (x, y) e);
        other = λ ne o g e.
            says ne (let x : eqb c.user k.owner ≡ false = ne_eqb c.user k.owner o in let y : eqb c.group k.group ≡ false = ne_eqb c.group k.group g in rw (x, y) e);
        user0 = λ z. let x : eqb c.user 0 ≡ true = eq-eqb c.user 0 z in record { reads = rw x; alters = rw x };
      }
    where
      says : c.user ≢ 0 → class_bits c k ≡ b.bits → Granted c k b.reads b.alters
      says ne e = let g = by_bits b.bits ne e in record { reads = rw r at g.reads; alters = rw a at g.alters }

  -- Three classes by eight settings of their bits, and user 0, by what is asked.
  pub permission : All (ByClass c k) settings
  permission =
      also (by_class _ refl refl)
      (also (by_class _ refl refl)
      (also (by_class _ refl refl)
      (also (by_class _ refl refl)
      (also (by_class _ refl refl)
      (also (by_class _ refl refl)
      (also (by_class _ refl refl)
      (also (by_class _ refl refl)
      none)))))))
