-- A whole set: the counts of its masks, and each number as a query of its semaphore shows it.
use Rattle.std.proofs.Common.{◌≡◌, ℕ, zero, suc, ◌+◌, ◌<◌, Bool, List, ◌∷◌, get_or, ℤ, pos, sym, refl, ap, ◌∙◌, add-zero, arith}
use lib.Count.{ones}
use Rattle.model.specs.declared.QueriedSet.{QueriedSet}
use Rattle.model.specs.declared.Set.{Set}
use Rattle.model.specs.declared.Refusal.{Refusal}
use Rattle.model.specs.Refusal.{errno_of}
use Rattle.model.specs.Limits.{slots, semaphores}
use Rattle.model.specs.State.{Sleeper, row}
use Rattle.model.specs.Marks.{mask_of}
use Rattle.model.specs.Checks.{slot_of, check_read_all}
use Rattle.model.specs.Permission.{reading}
use Rattle.model.specs.Counts.{for_increase, for_zero, count_of}
use Rattle.model.specs.Events.{seen_at}
use Rattle.model.specs.WholeSet.{each_from, each, shown_at, set_refused, set_checked, query_set}
use Rattle.model.proofs.RefusalLaws.{errno_some}
use Rattle.model.proofs.CheckLaws.{access_passes}
use Rattle.model.proofs.Ones.{ones_mask}
use Rattle.model.proofs.WholeSetLaws.{each_at, each_long, each_is}
use Rattle.host.specs.Parts.{values, lasts}
use Rattle.host.specs.Rows.{from}
use Rattle.host.specs.Holding.{Host, set_at, queue_in, table_in, state_in, Held}
use Rattle.host.proofs.SetRows.{set_in}
use Rattle.service.specs.declared.waiting.Waiters.{Waiters}
use Rattle.service.specs.Waiting.{waiters_of}
use Rattle.service.proofs.EventLaws.{held_invariant}

-- elements from a place on, one for each semaphore
from_each : (l : List ℕ) (at k n : ℕ) → from 0 n (at + k) l ≡ each_from (λ (j : ℕ). get_or l (at + j) 0) k n
unfolding from each_from
from_each l at k zero = refl
from_each l at k (suc n) =
    let e : at + k + 1 ≡ at + (k + 1) = omega arith in
    rw e (ap (λ (r : List ℕ). get_or l (at + k) 0 ∷ r) (from_each l at (k + 1) n))

from_all : (l : List ℕ) (at : ℕ) → from 0 semaphores at l ≡ each (λ (j : ℕ). get_or l (at + j) 0)
from_all l at = ap (λ (m : ℕ). from 0 semaphores m l) (sym (add-zero at)) ∙ from_each l at 0 semaphores

each_same : (f g : ℕ → ℕ) → ((n : ℕ) → n < semaphores → f n ≡ g n) → each f ≡ each g
each_same f g h = each_is g (each f) (each_long f 0 semaphores) (λ n l. each_at f n l ∙ h n l)

-- ---- what is shown

refuses_set : (code : ℕ) (shown : QueriedSet) → (code ≡ 0 → ⊥) → set_refused code ≡ set_checked code shown
refuses_set zero shown n = absurd (n refl)
refuses_set (suc code) shown n = refl

module _ (x : Host) (p : ℕ) (i : ℤ) where
  pub set_refused_lem : (refusal : Refusal) → errno_of refusal ≡ check_read_all (state_in x) p i → set_refused (errno_of refusal) ≡ query_set (state_in x) p i
  unfolding query_set
  set_refused_lem refusal e = rw (← e) (refuses_set (errno_of refusal) _ (errno_some refusal))

  pub set_small : check_read_all (state_in x) p i ≡ 0 → {slot : ℕ} → slot ≡ slot_of i → slot < slots
  set_small z e = omega (arith, e, (access_passes (state_in x) p i reading z).named.slot)

  -- each number is what a query of its semaphore shows
  pub set_shown : Held x → {slot : ℕ} {set : Set} {w : Waiters} {vs ls is zs : List ℕ} → check_read_all (state_in x) p i ≡ 0 → slot ≡ slot_of i → set ≡ set_at x.row slot
      → w ≡ waiters_of (table_in x) slot (queue_in x.row) → vs ≡ from 0 semaphores (row slot) (x.row values) → ls ≡ from 0 semaphores (row slot) (x.row lasts)
      → is ≡ each (λ (n : ℕ). ones (get_or w.increase n 0)) → zs ≡ each (λ (n : ℕ). ones (get_or w.zero n 0))
      → record {
        code = pos 0;
        count = set.count;
        judged = w.judged;
        values = vs;
        lasts = ls;
        increase = is;
        zero = zs;
        increase_masks = w.increase;
        zero_masks = w.zero;
      }
      ≡ query_set (state_in x) p i
  unfolding query_set shown_at seen_at
  set_shown k {slot} {set} {w} {vs} {ls} {is} {zs} z es et ew ev el ei ez =
      let v = held_invariant x k in
      let counts : (tests : ℕ → Sleeper → Bool) → each (λ (n : ℕ). ones (get_or (each (λ (j : ℕ). mask_of (tests j) 0 (queue_in x.row))) n 0)) ≡ each (λ (n : ℕ). count_of (tests n) (queue_in x.row)) =
      λ tests. each_same _ _ (λ n l. ap ones (each_at _ n l) ∙ ones_mask (tests n) (queue_in x.row) v.fits v.distinct) in
      rw (ev, el, ei, ez, ew, et, z, es, from_all (x.row values) (row (slot_of i)), from_all (x.row lasts) (row (slot_of i)), counts (for_increase (table_in x) (slot_of i)), counts (for_zero (table_in x) (slot_of i)), set_in x.row (slot_of i) (access_passes (state_in x) p i reading z).named.slot)
