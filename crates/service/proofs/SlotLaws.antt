-- Create and remove: the set in a slot changes, with the numbers of the slot and its sleepers.
use Rattle.std.proofs.Common.{◌≡◌, ℕ, zero, suc, ◌+◌, ◌*◌, ◌%◌, ◌<◌, List, [], ◌∷◌, map, length, get_or, set, ℤ, pos, sym, refl, ap, ◌∙◌, subst, ap₂}
use Rattle.model.specs.declared.Set.{Set}
use Rattle.model.specs.declared.Caller.{Caller}
use Rattle.model.specs.declared.Told.{Told}
use Rattle.model.specs.declared.Waking.{Waking}
use Rattle.model.specs.Limits.{slots}
use Rattle.model.specs.State.{Table, Sleeper, caller_of, State, free_set, no_set, cleared}
use Rattle.model.specs.Marks.{mine}
use Rattle.model.specs.Checks.{slot_of, free_slot, identifier_of, check_create, check_remove}
use Rattle.model.specs.Events.{keep, ended_with, made_by, do_create, do_remove, not_mine}
use Rattle.model.proofs.CheckLaws.{create_passes, remove_passes}
use Rattle.host.specs.Parts.{Row}
use Rattle.host.specs.Holding.{Host, with_queue, with_table, host_of, set_at, with_set, sets_in, callers_in, caller_in, time_in, queue_in, table_in, state_in, Held, array_in}
use Rattle.host.specs.Queue.{Queued, QueueHeld}
use Rattle.host.proofs.PartLaws.{set_parts, caller_parts, clock_parts, queue_parts, by_groups}
use Rattle.host.proofs.SetRows.{set_in}
use Rattle.host.proofs.CallerRows.{caller_in_lem}
use Rattle.wakings.specs.Wakings.{Place, list_of}
use Rattle.service_table.specs.Written.{tabled}
use Rattle.service.specs.After.{telling, after_of}
use Rattle.service.proofs.EventLaws.{held_row, held_queued, goes_on}

map_set : {A B : Type 0} (f : A → B) (l : List A) (i : ℕ) (x : A) → set (map f l) i (f x) ≡ map f (set l i x)
map_set f [] i x = refl
map_set f (y ∷ l) zero x = refl
map_set {B = B} f (y ∷ l) (suc i) x = ap (λ (r : List B). f y ∷ r) (map_set f l i x)

-- a host's state with a set put into a slot, another table, and another queue
abbrev slot_with : Host → ℕ → Set → Table → List Sleeper → State
slot_with x slot s t q = record { sets = set (sets_in x.row) slot s; callers = callers_in x.row; table = t; queue = q; time = time_in x.row }

module _ (x : Host) (k : Held x) (slot : ℕ) (s : Set) (t : Table) (q : List Sleeper) where
  -- the set is put into the parts of the sets
  sets_put : set_parts (with_set x.row slot s) ≡ set_parts (host_of (slot_with x slot s t q)).row
  sets_put =
      let old : List Set = sets_in x.row in
      ap (λ (y : Host). set_parts (with_set y.row slot s)) k.holds
      ∙ rw (map_set (λ (y : Set). y.generation) old slot s, map_set (λ (y : Set). y.count) old slot s, map_set (λ (y : Set). y.owner) old slot s, map_set (λ (y : Set). y.group) old slot s, map_set (λ (y : Set). y.mode) old slot s)

  pub set_host : record { row = with_queue (with_table (with_set x.row slot s) t) q; adjustments = t.adjustments } ≡ host_of (slot_with x slot s t q)
  set_host = ap (λ (r : Row). record { row = r; adjustments = t.adjustments }) (by_groups _ _ sets_put (ap (λ (y : Host). caller_parts y.row) k.holds) refl (ap (λ (y : Host). clock_parts y.row) k.holds) refl)

  -- the queue's parts stay
  row_kept : with_table (with_set x.row slot s) t ≡ with_queue (with_table (with_set x.row slot s) t) (queue_in x.row)
  row_kept = by_groups _ _ refl refl refl refl (ap queue_parts (held_row x k).holds)

  queue_kept : queue_in (with_table (with_set x.row slot s) t) ≡ queue_in x.row
  unfolding queue_in array_in
  queue_kept = refl

-- ---- create

module _ (x : Host) (k : Held x) (p count mode : ℕ) (z : check_create (state_in x) p count mode ≡ 0) where
  pub create_slot : free_slot (sets_in x.row) < slots
  create_slot = (create_passes (state_in x) p count mode z).slot

  pub created : {slot value g : ℕ} {c : Caller} {r : Row} {y : Host} {l : List Place} {told : Told} → slot ≡ free_slot (sets_in x.row) → g ≡ (set_at x.row slot).generation
      → c ≡ caller_in x.row p → r ≡ with_set x.row slot (made_by c g count mode)
      → y ≡ tabled (record { row = r; adjustments = x.adjustments }) (cleared (table_in (record { row = r; adjustments = x.adjustments })) slot)
      → l ≡ list_of [] → value ≡ slot + slots * g → told ≡ telling (pos 0) value 0 0
      → record { host = y; wakings = l; told = told } ≡ after_of (do_create (state_in x) p count mode)
  unfolding do_create identifier_of
  created {slot} {value} {g} {c} {r} {y} {l} {told} es eg ec er ey el ev et =
      let s : Set = made_by c g count mode in
      let t : Table = cleared (table_in x) slot in
      let old : g ≡ (get_or (sets_in x.row) slot no_set).generation = eg ∙ ap (λ (u : Set). u.generation) (sym (set_in x.row slot (rw es create_slot))) in
      let maker : c ≡ caller_of (callers_in x.row) p = ec ∙ sym (caller_in_lem x.row p (create_passes (state_in x) p count mode z).caller.process) in
      let h : y ≡ host_of (slot_with x slot s t (queue_in x.row)) =
      ey ∙ ap (λ (a : Row). tabled (record { row = a; adjustments = x.adjustments }) (cleared (table_in (record { row = a; adjustments = x.adjustments })) slot)) er
      ∙ ap (λ (a : Row). record { row = a; adjustments = t.adjustments }) (row_kept x k slot s t (queue_in x.row))
      ∙ set_host x k slot s t (queue_in x.row) in
      ap₂ (λ (a : Host) (w : List Place). record { host = a; wakings = w; told = told }) h el
      ∙ ap (λ (u : Told). record { host = host_of (slot_with x slot s t (queue_in x.row)); wakings = list_of []; told = u }) (et ∙ ap (λ (v : ℕ). telling (pos 0) v 0 0) ev)
      ∙ rw (old, maker, es) (ap after_of (goes_on (state_in x) _ z))

-- ---- remove

module _ (x : Host) (k : Held x) (p : ℕ) (i : ℤ) (z : check_remove (state_in x) p i ≡ 0) where
  pub remove_slot : slot_of i < slots
  remove_slot = (remove_passes (state_in x) p i z).slot

  module _ {slot g : ℕ} {r : Row} {y : Host} (es : slot ≡ slot_of i) (eg : g ≡ ((set_at x.row slot).generation + 1) % 65536)
      (er : r ≡ with_set x.row slot (free_set g))
      (ey : y ≡ tabled (record { row = r; adjustments = x.adjustments }) (cleared (table_in (record { row = r; adjustments = x.adjustments })) slot)) where
    abbrev free : Set
    free = free_set g

    there : y ≡ record { row = with_table (with_set x.row slot (free_set g)) (cleared (table_in x) slot); adjustments = (cleared (table_in x) slot).adjustments }
    there = ey ∙ ap (λ (a : Row). tabled (record { row = a; adjustments = x.adjustments }) (cleared (table_in (record { row = a; adjustments = x.adjustments })) slot)) er

    queue_there : queue_in y.row ≡ queue_in x.row
    queue_there = ap (λ (a : Host). queue_in a.row) there ∙ queue_kept x k slot (free_set g) (cleared (table_in x) slot) (queue_in x.row)

    pub removed_row : QueueHeld y.row
    removed_row =
        record {
          holds = ap (λ (a : Host). a.row) there ∙ row_kept x k slot (free_set g) (cleared (table_in x) slot) (queue_in x.row)
              ∙ ap₂ with_queue (ap (λ (a : Host). a.row) (sym there)) (sym queue_there);
          fits = subst Queued (sym queue_there) (held_queued x k);
        }

    pub removed : {r' : Row} {l : List Place} {woken : ℕ} {told : Told} → r' ≡ with_queue y.row (keep (not_mine slot) (queue_in y.row))
        → l ≡ list_of (ended_with (pos 43) (mine slot) (queue_in y.row)) → woken ≡ length (ended_with (pos 43) (mine slot) (queue_in y.row)) → told ≡ telling (pos 0) 0 0 woken
        → record { host = record { row = r'; adjustments = y.adjustments }; wakings = l; told = told } ≡ after_of (do_remove (state_in x) p i)
    unfolding do_remove
    removed {r'} {l} {woken} {told} ek el en et =
        let q : List Sleeper = keep (not_mine slot) (queue_in x.row) in
        let w : List Waking = ended_with (pos 43) (mine slot) (queue_in x.row) in
        let old : g ≡ ((get_or (sets_in x.row) slot no_set).generation + 1) % 65536 = eg ∙ ap (λ (u : Set). (u.generation + 1) % 65536) (sym (set_in x.row slot (rw es remove_slot))) in
        let h : record { row = r'; adjustments = y.adjustments } ≡ host_of (slot_with x slot (free_set g) (cleared (table_in x) slot) q) =
        ap₂ (λ (a : Row) (b : List ℤ). record { row = a; adjustments = b }) (ek ∙ ap₂ (λ (a : Host) (b : List Sleeper). with_queue a.row (keep (not_mine slot) b)) there queue_there) (ap (λ (a : Host). a.adjustments) there)
        ∙ set_host x k slot (free_set g) (cleared (table_in x) slot) q in
        let u : told ≡ telling (pos 0) 0 0 (length w) = et ∙ ap (λ (n : ℕ). telling (pos 0) 0 0 n) (en ∙ ap (λ (a : List Sleeper). length (ended_with (pos 43) (mine slot) a)) queue_there) in
        ap₂ (λ (a : Host) (b : List Place). record { host = a; wakings = b; told = told }) h (el ∙ ap (λ (a : List Sleeper). list_of (ended_with (pos 43) (mine slot) a)) queue_there)
        ∙ ap (λ (v : Told). record { host = host_of (slot_with x slot (free_set g) (cleared (table_in x) slot) q); wakings = list_of w; told = v }) u
        ∙ rw (old, es) (ap after_of (goes_on (state_in x) _ z))
