-- The parts of the row that hold the sets: the set in a slot, and the list of all.
use Rattle.std.proofs.Common.{◌≡◌, ℕ, zero, suc, ◌+◌, ◌<◌, List, map, length, get_or, sym, refl, ap, ◌∙◌, le_of_suc-le-suc, not-suc-le-zero, add-zero, arith, ext_get_or}
use lib.ListN.{get_or-map}
use Rattle.model.specs.declared.Set.{Set}
use Rattle.model.specs.Limits.{slots}
use Rattle.model.specs.State.{no_set}
use Rattle.host.specs.Parts.{generations, counts, owners, owning_groups, modes, Row}
use Rattle.host.specs.Holding.{set_at, sets_from, sets_in}

pub length_sets_in : (n : ℕ) (r : Row) (slot : ℕ) → length (sets_from r slot n) ≡ n
unfolding sets_from
length_sets_in zero r slot = refl
length_sets_in (suc n) r slot = ap suc (length_sets_in n r (slot + 1))

sets_from_at : (n : ℕ) (r : Row) (slot i : ℕ) → i < n → get_or (sets_from r slot n) i no_set ≡ set_at r (slot + i)
unfolding sets_from
sets_from_at zero r slot i h = absurd (not-suc-le-zero h)
sets_from_at (suc n) r slot zero h = rw add-zero
sets_from_at (suc n) r slot (suc i) h = let e : slot + suc i ≡ slot + 1 + i = omega arith in rw e (sets_from_at n r (slot + 1) i (le_of_suc-le-suc h))

-- the set in a slot
pub set_in : (r : Row) (slot : ℕ) → slot < slots → get_or (sets_in r) slot no_set ≡ set_at r slot
set_in r slot h = let e : 0 + slot ≡ slot = omega arith in rw e at (sets_from_at slots r 0 slot h)

-- the row holds these sets
pub record Sets (r : Row) (l : List Set) : Type 0 where
  pub size : length l ≡ slots
  pub generation : r generations ≡ map (λ (s : Set). s.generation) l
  pub count : r counts ≡ map (λ (s : Set). s.count) l
  pub owner : r owners ≡ map (λ (s : Set). s.owner) l
  pub group : r owning_groups ≡ map (λ (s : Set). s.group) l
  pub mode : r modes ≡ map (λ (s : Set). s.mode) l

module _ {r : Row} {l : List Set} (k : Sets r l) where
  pub set_of_lem : (slot : ℕ) → set_at r slot ≡ get_or l slot no_set
  set_of_lem slot =
      let a = get_or-map (λ (s : Set). s.generation) l slot no_set in
      let b = get_or-map (λ (s : Set). s.count) l slot no_set in
      let c = get_or-map (λ (s : Set). s.owner) l slot no_set in
      let d = get_or-map (λ (s : Set). s.group) l slot no_set in
      let e = get_or-map (λ (s : Set). s.mode) l slot no_set in
      rw (k.generation, k.count, k.owner, k.group, k.mode, a, b, c, d, e)

  pub sets_back : sets_in r ≡ l
  sets_back =
      ext_get_or no_set (sets_in r) l (length_sets_in slots r 0 ∙ sym k.size)
      (λ i h. set_in r i (omega (arith, length_sets_in slots r 0)) ∙ set_of_lem i)
