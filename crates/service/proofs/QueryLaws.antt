-- A query: its semaphore's masks out of those of its set.
use Rattle.std.proofs.Common.{◌≡◌, ℕ, zero, suc, ◌+◌, ◌<◌, get_or, ℤ, pos, refl, ap, ◌∙◌, arith}
use lib.Count.{ones}
use Rattle.model.specs.declared.Refusal.{Refusal}
use Rattle.model.specs.Refusal.{errno_of}
use Rattle.model.specs.Limits.{slots, semaphores}
use Rattle.model.specs.State.{row}
use Rattle.model.specs.Marks.{mask_of}
use Rattle.model.specs.Checks.{slot_of, check_query}
use Rattle.model.specs.Counts.{for_increase, for_zero}
use Rattle.model.specs.Events.{Result, answer, checked, seen_at, do_query}
use Rattle.model.proofs.RefusalLaws.{errno_some}
use Rattle.model.proofs.CheckLaws.{query_passes}
use Rattle.model.proofs.Ones.{ones_mask}
use Rattle.model.proofs.WholeSetLaws.{each_at}
use Rattle.host.specs.Parts.{values, lasts}
use Rattle.host.specs.Holding.{Host, queue_in, table_in, state_in, Held}
use Rattle.service.specs.declared.waiting.Waiters.{Waiters}
use Rattle.service.specs.After.{queried_of, showing}
use Rattle.service.specs.Waiting.{waiters_of}
use Rattle.service.proofs.EventLaws.{held_invariant, held_counts}

refuses : (code : ℕ) (r : Result) (s : _) → (code ≡ 0 → ⊥) → showing (answer (pos code)) 0 ≡ queried_of (checked code s r)
refuses zero r s n = absurd (n refl)
refuses (suc code) r s n = refl

module _ (x : Host) (k : Held x) (p : ℕ) (i : ℤ) (n : ℕ) where
  pub query_refused : (refusal : Refusal) → errno_of refusal ≡ check_query (state_in x) p i n → showing (answer (pos (errno_of refusal))) 0 ≡ queried_of (do_query (state_in x) p i n)
  unfolding do_query
  query_refused refusal e = rw (← e) (refuses (errno_of refusal) _ (state_in x) (errno_some refusal))

  -- the semaphore is one of the table's
  pub query_small : check_query (state_in x) p i n ≡ 0 → {slot : ℕ} → slot ≡ slot_of i → (slot < slots) × (n < semaphores)
  query_small z e =
      let q = query_passes (state_in x) p i n z in
      (omega (arith, e, q.slot), omega (arith, q.number, held_counts x k (slot_of i)))

  -- "the count is the number of ones in it"
  pub queried : {slot value last increase none : ℕ} {w : Waiters} → check_query (state_in x) p i n ≡ 0 → slot ≡ slot_of i → w ≡ waiters_of (table_in x) slot (queue_in x.row)
      → increase ≡ get_or w.increase n 0 → none ≡ get_or w.zero n 0 → value ≡ get_or (x.row values) (row slot + n) 0 → last ≡ get_or (x.row lasts) (row slot + n) 0
      → record {
        code = pos 0;
        value = value;
        last = last;
        increase = ones increase;
        zero = ones none;
        increase_mask = increase;
        zero_mask = none;
        looks = 0;
      }
      ≡ queried_of (do_query (state_in x) p i n)
  unfolding do_query seen_at
  queried {slot} {value} {last} {increase} {none} {w} z es ew ei ez ev el =
      let v = held_invariant x k in
      let l : n < semaphores = (query_small z es).1 in
      let mi : increase ≡ mask_of (for_increase (table_in x) slot n) 0 (queue_in x.row) = ei ∙ ap (λ (y : Waiters). get_or y.increase n 0) ew ∙ each_at _ n l in
      let mz : none ≡ mask_of (for_zero (table_in x) slot n) 0 (queue_in x.row) = ez ∙ ap (λ (y : Waiters). get_or y.zero n 0) ew ∙ each_at _ n l in
      let a = ones_mask (for_increase (table_in x) (slot_of i) n) (queue_in x.row) v.fits v.distinct in
      let b = ones_mask (for_zero (table_in x) (slot_of i) n) (queue_in x.row) v.fits v.distinct in
      rw (mi, mz, ev, el, z, es, a, b)
