-- Who may do what with a set: its owner, its owning group and nine permission bits "in the usual Unix order".
use Rattle.std.specs.Prelude.{ℕ, ◌/◌, ◌%◌, ◌≡◌, ◌≢◌, Bool, true, false, cond, ◌||◌, List, [], ◌∷◌, eqb}
use Rattle.model.specs.declared.Set.{Set}
use Rattle.model.specs.declared.Caller.{Caller}
use Rattle.model.specs.Operation.{has_bit}

-- "read and alter are the bits 4 and 2 of the three"
abbrev pub reading : ℕ
reading = 4

abbrev pub altering : ℕ
altering = 2

-- the three bits of each class: owner, owning group, other
abbrev pub owner_bits : Set → ℕ
owner_bits k = k.mode / 64 % 8

abbrev pub group_bits : Set → ℕ
group_bits k = k.mode / 8 % 8

abbrev pub other_bits : Set → ℕ
other_bits k = k.mode % 8

-- "A process whose user is the owner uses the first three bits, one in the owning group the next, any other the last"
unfoldable pub class_bits : Caller → Set → ℕ
class_bits c k = cond (eqb c.user k.owner) (owner_bits k) (cond (eqb c.group k.group) (group_bits k) (other_bits k))

-- may the caller do what is asked? "User 0 passes."
unfoldable pub permits : Caller → Set → ℕ → Bool
permits c k asked = eqb c.user 0 || has_bit (class_bits c k) asked

-- "Removing needs owner or user 0"
unfoldable pub owns : Caller → Set → Bool
owns c k = eqb c.user 0 || eqb c.user k.owner

-- ---- what is claimed of it: a truth table

-- three bits, and whether they let their class read and alter
pub record Setting : Type 0 where
  pub bits : ℕ
  pub reads : Bool
  pub alters : Bool

abbrev setting : ℕ → Bool → Bool → Setting
setting bits reads alters = record { bits = bits; reads = reads; alters = alters }

-- all eight
abbrev pub settings : List Setting
settings =
    setting 0 false false
    ∷ setting 1 false false
    ∷ setting 2 false true
    ∷ setting 3 false true
    ∷ setting 4 true false
    ∷ setting 5 true false
    ∷ setting 6 true true
    ∷ setting 7 true true
    ∷ []

-- the caller may read, and alter, as is said
pub record Granted (c : Caller) (k : Set) (r a : Bool) : Type 0 where
  pub reads : permits c k reading ≡ r
  pub alters : permits c k altering ≡ a

-- A caller by class, at a setting of the class's bits, whatever the other classes have: "one class only". User 0 has no class.
pub record ByClass (c : Caller) (k : Set) (b : Setting) : Type 0 where
  pub owner : c.user ≢ 0 → c.user ≡ k.owner → owner_bits k ≡ b.bits → Granted c k b.reads b.alters
  pub group : c.user ≢ 0 → c.user ≢ k.owner → c.group ≡ k.group → group_bits k ≡ b.bits → Granted c k b.reads b.alters
  pub other : c.user ≢ 0 → c.user ≢ k.owner → c.group ≢ k.group → other_bits k ≡ b.bits → Granted c k b.reads b.alters
  pub user0 : c.user ≡ 0 → Granted c k true true
