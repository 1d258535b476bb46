-- A process's adjustments for a slot are added to the values: the loop, and what it does to a host.
use Prim.Native.Nat.{ℕ, zero, suc, ◌+◌, ◌≤◌, ◌<◌}
use native.Mathlib.Nat.{not-suc-le-zero, le_of_suc-le-suc}
use native.Mathlib.Omega.{arith}
use mathlib.Core.Path.{◌≡◌, refl, sym, ap, ap₂, ◌∙◌}
use mathlib.Core.Bool.{true}
use mathlib.Core.List.{List, [], ◌∷◌}
use lib.IntN.{ℤ, pos}
use lib.ListN.{length, get_or, take, drop, replicate}
use lib.Seq.{sets, paste, length-slice, length-paste}
use borrow.Author.Tests.{eq-eqb, le-ltb}
use Rattle.model.specs.Limits.{slots, semaphores, value_max, all_semaphores, all_adjustments}
use Rattle.model.specs.State.{Table, with_values, with_adjustments, row, undo_row}
use Rattle.model.specs.Look.{values_of, adjustments_of}
use Rattle.model.specs.Marks.{differing}
use Rattle.model.specs.Events.{cut, undo_all}
use Rattle.model.specs.Runs.{none, also}
use Rattle.model.specs.Invariant.{Good}
use Rattle.model.proofs.Lists.{first, rest, all_slice, all_paste, all_replicate}
use Rattle.model.proofs.TableLaws.{cut_small}
use Rattle.host.specs.Parts.{values, Row, row_in, with}
use Rattle.host.specs.Rows.{from, undo_at}
use Rattle.host.specs.Holding.{Host, table_in, host_in}
use Rattle.host.proofs.PartLaws.{by_parts, length_part}
use Rattle.host.proofs.RowLaws.{from_slice, sets_paste}
use Rattle.host.proofs.SleeperLaws.{undo_at_lem}
use Rattle.service_table.specs.Numbered.{IsSlot, IsProcess, AreValues}
use Rattle.service_table.specs.Written.{tabled, exited_at, all_zero}
use Rattle.service_table.proofs.Lists.{slice_pasted, paste_same}
use Rattle.service_table.proofs.ZeroLaws.{all_zeros}
use Rattle.service_table.proofs.WrittenLaws.{host_as, tabled_same}

-- ---- values and adjustments, one by one

pub length_undone : (vs : List ℕ) (us : List ℤ) → length (undo_all vs us) ≡ length vs
unfolding undo_all
length_undone [] us = refl
length_undone (v ∷ vs) [] = refl
length_undone (v ∷ vs) (u ∷ us) = ap suc (length_undone vs us)

pub undone_at : (vs : List ℕ) (us : List ℤ) (k : ℕ) → k < length vs → k < length us → get_or (undo_all vs us) k 0 ≡ cut (get_or vs k 0) (get_or us k (pos 0))
unfolding undo_all
undone_at [] us k h g = absurd (not-suc-le-zero h)
undone_at (v ∷ vs) [] k h g = absurd (not-suc-le-zero g)
undone_at (v ∷ vs) (u ∷ us) zero h g = refl
undone_at (v ∷ vs) (u ∷ us) (suc k) h g = undone_at vs us k (le_of_suc-le-suc h) (le_of_suc-le-suc g)

undone_nothing : (vs : List ℕ) → undo_all vs [] ≡ vs
unfolding undo_all
undone_nothing [] = refl
undone_nothing (v ∷ vs) = refl

pub undone_drop : (n : ℕ) (vs : List ℕ) (us : List ℤ) → drop n (undo_all vs us) ≡ undo_all (drop n vs) (drop n us)
unfolding undo_all
undone_drop zero vs us = refl
undone_drop (suc n) [] us = refl
undone_drop (suc n) (v ∷ vs) [] = sym (undone_nothing (drop n vs))
undone_drop (suc n) (v ∷ vs) (u ∷ us) = undone_drop n vs us

pub undone_take : (n : ℕ) (vs : List ℕ) (us : List ℤ) → take n (undo_all vs us) ≡ undo_all (take n vs) (take n us)
unfolding undo_all
undone_take zero vs us = refl
undone_take (suc n) [] us = refl
undone_take (suc n) (v ∷ vs) [] = refl
undone_take (suc n) (v ∷ vs) (u ∷ us) = ap (λ (r : List ℕ). cut v u ∷ r) (undone_take n vs us)

-- zeros change no value
cut_zero : (v : ℕ) → v ≤ value_max → cut v (pos 0) ≡ v
unfolding cut
cut_zero v h = let e : v + 0 ≡ v = omega arith in rw (e, le-ltb v 0 (omega arith), le-ltb value_max v h)

pub undone_zeros : (n : ℕ) (vs : List ℕ) → AreValues vs → undo_all vs (replicate n (pos 0)) ≡ vs
unfolding undo_all
undone_zeros n [] h = refl
undone_zeros zero (v ∷ vs) h = refl
undone_zeros (suc n) (v ∷ vs) h = ap₂ (λ (x : ℕ) (r : List ℕ). x ∷ r) (cut_zero v (first h)) (undone_zeros n vs (rest h))

-- what is small stays small
undone_small : (vs : List ℕ) (us : List ℤ) → AreValues vs → AreValues (undo_all vs us)
unfolding undo_all
undone_small [] us h = none
undone_small (v ∷ vs) [] h = h
undone_small (v ∷ vs) (u ∷ us) h = also (cut_small v u) (undone_small vs us (rest h))

-- a mask of values that do not differ is empty
pub differing_none : (m i : ℕ) (xs : List ℕ) → differing m i xs xs ≡ m
unfolding differing
differing_none m i [] = refl
differing_none m i (x ∷ xs) = rw (eq-eqb x x refl) (differing_none m (i + 1) xs)

-- ---- a slot of a table

module _ (t : Table) (p slot : ℕ) (hp : IsProcess p) (hs : IsSlot slot) (values : length t.values ≡ all_semaphores) (adjustments : length t.adjustments ≡ all_adjustments) where
  hv : row slot + semaphores ≤ length t.values
  hv = let h : slot < slots = hs in omega arith

  ha : undo_row p slot + semaphores ≤ length t.adjustments
  ha = let h : slot < slots = hs in omega (arith, hp.least, hp.most)

  length_values : length (values_of t slot) ≡ semaphores
  unfolding values_of
  length_values = length-slice (row slot) (row slot + semaphores) t.values hv ∙ omega arith

  -- the values of the slot are then those with the adjustments
  pub exited_values : values_of (exited_at t p slot) slot ≡ undo_all (values_of t slot) (adjustments_of t p slot)
  unfolding exited_at values_of
  exited_values = slice_pasted t.values (row slot) (undo_all (values_of t slot) (adjustments_of t p slot)) semaphores hv (length_undone (values_of t slot) (adjustments_of t p slot) ∙ length_values)

  -- nothing changes if all adjustments are zero
  pub exited_nothing : AreValues t.values → adjustments_of t p slot ≡ replicate semaphores (pos 0) → exited_at t p slot ≡ t
  unfolding exited_at values_of adjustments_of
  exited_nothing small e =
      let v : undo_all (values_of t slot) (adjustments_of t p slot) ≡ values_of t slot =
      ap (λ (us : List ℤ). undo_all (values_of t slot) us) e ∙ undone_zeros semaphores (values_of t slot) (all_slice (row slot) (row slot + semaphores) t.values small) in
      ap₂ (λ (vs : List ℕ) (us : List ℤ). with_adjustments (with_values t vs) us)
      (ap (λ (vs : List ℕ). paste t.values (row slot) vs semaphores) v ∙ paste_same t.values (row slot) semaphores hv)
      (ap (λ (us : List ℤ). paste t.adjustments (undo_row p slot) us semaphores) (sym e) ∙ paste_same t.adjustments (undo_row p slot) semaphores ha)

pub exited_at_good : (t : Table) (p slot : ℕ) → IsProcess p → IsSlot slot → Good t → Good (exited_at t p slot)
unfolding exited_at values_of
exited_at_good t p slot hp hs g =
    let us = adjustments_of t p slot in
    let vs = undo_all (values_of t slot) us in
    let l : length vs ≡ semaphores = length_undone (values_of t slot) us ∙ length_values t p slot hp hs g.values g.adjustments in
    record {
      values = length-paste t.values (row slot) vs semaphores (hv t p slot hp hs g.values g.adjustments) (omega arith) ∙ g.values;
      lasts = g.lasts;
      adjustments = length-paste t.adjustments (undo_row p slot) (replicate semaphores (pos 0)) semaphores (ha t p slot hp hs g.values g.adjustments) (omega arith) ∙ g.adjustments;
      small = all_paste t.values (row slot) vs semaphores g.small (undone_small (values_of t slot) us (all_slice (row slot) (row slot + semaphores) t.values g.small));
      ranged = all_paste t.adjustments (undo_row p slot) (replicate semaphores (pos 0)) semaphores g.ranged (all_replicate semaphores (pos 0) (omega arith));
    }

-- ---- a slot of a host

length_from : {A : Type 0} (d : A) (n at : ℕ) (l : List A) → length (from d n at l) ≡ n
unfolding from
length_from d zero at l = refl
length_from d (suc n) at l = ap suc (length_from d n (at + 1) l)

module _ (h : List ℕ) (a : List ℤ) (p slot : ℕ) (hp : IsProcess p) (hs : IsSlot slot) (la : length a ≡ all_adjustments) where
  lv : length (row_in h values) ≡ all_semaphores
  lv = length_part values h

  abbrev t : Table
  t = table_in (host_in h a)

  values_read : from 0 semaphores (row slot) (row_in h values) ≡ values_of t slot
  unfolding values_of
  values_read = from_slice 0 semaphores (row slot) (row_in h values) (hv t p slot hp hs lv la)

  undo_read : from (pos 0) semaphores (undo_at p slot) a ≡ adjustments_of t p slot
  unfolding adjustments_of
  undo_read = rw (undo_at_lem p slot hp.least hp.most hs) (from_slice (pos 0) semaphores (undo_row p slot) a (ha t p slot hp hs lv la))

  -- what `undo_slot` promises of the host and the mask that it leaves
  abbrev pub Undid : Host → ℕ → Type 0
  Undid x mask =
      (x ≡ tabled (host_in h a) (exited_at (table_in (host_in h a)) p slot))
      × (mask ≡ differing 0 0 (values_of (table_in (host_in h a)) slot) (values_of (exited_at (table_in (host_in h a)) p slot) slot))

  module _ (us : List ℤ) (e : us ≡ from (pos 0) semaphores (undo_at p slot) a) where
    -- all adjustments are zero
    pub undo_nothing : AreValues (row_in h values) → all_zero us ≡ true → Undid (host_in h a) 0
    undo_nothing small z =
        let zeros = all_zeros semaphores us (ap length e ∙ length_from (pos 0) semaphores (undo_at p slot) a) z in
        let stays : exited_at t p slot ≡ t = exited_nothing t p slot hp hs lv la small (sym undo_read ∙ sym e ∙ zeros) in (
          tabled_same (host_in h a) ∙ ap (λ (y : Table). tabled (host_in h a) y) (sym stays),
          rw stays (sym (differing_none 0 0 (values_of t slot))),
        )

    -- .. or not
    pub undo_some : (before after : List ℕ) → before ≡ from 0 semaphores (row slot) (row_in h values) → after ≡ undo_all before us
        → (r₁ : Row) (a₁ : List ℤ) (mask : ℕ) → r₁ ≡ with (row_in h) values (sets (row_in h values) (row slot) after)
        → a₁ ≡ sets a (undo_at p slot) (replicate semaphores (pos 0)) → mask ≡ differing 0 0 before after → Undid (host_as r₁ a₁) mask
    unfolding exited_at
    undo_some before after eb ea r₁ a₁ mask er eu em =
        let same : after ≡ undo_all (values_of t slot) (adjustments_of t p slot) = ea ∙ ap₂ undo_all (eb ∙ values_read) (e ∙ undo_read) in
        let l : length after ≡ semaphores = ap length same ∙ length_undone (values_of t slot) (adjustments_of t p slot) ∙ length_values t p slot hp hs lv la in
        let v = sets_paste after (row_in h values) (row slot) semaphores l (hv t p slot hp hs lv la) ∙ ap (λ (vs : List ℕ). paste (row_in h values) (row slot) vs semaphores) same in
        let u = sets_paste (replicate semaphores (pos 0)) a (undo_row p slot) semaphores refl (ha t p slot hp hs lv la) in (
          ap₂ host_as
              (er ∙ ap (λ (vs : List ℕ). with (row_in h) values vs) v ∙ by_parts _ _ refl)
              (eu ∙ rw (undo_at_lem p slot hp.least hp.most hs) u),
          em ∙ ap₂ (λ (x y : List ℕ). differing 0 0 x y) (eb ∙ values_read) (same ∙ sym (exited_values t p slot hp hs lv la)),
        )
