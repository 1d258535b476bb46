-- Set all, once no check applies.
use Rattle.std.proofs.Common.{◌≡◌, ℕ, ◌≤◌, List, [], get_or, ℤ, pos, ap, ◌∙◌, ap₂}
use Rattle.model.specs.declared.Set.{Set}
use Rattle.model.specs.declared.Engine.{Engine}
use Rattle.model.specs.declared.Told.{Told}
use Rattle.model.specs.Limits.{semaphores}
use Rattle.model.specs.State.{Table, no_set}
use Rattle.model.specs.Marks.{every_number}
use Rattle.model.specs.Values.{values_in, held}
use Rattle.model.specs.Checks.{slot_of, check_set_all}
use Rattle.model.specs.Waking.{waker}
use Rattle.model.specs.Events.{assigned_all, do_set_all}
use Rattle.model.specs.Invariant.{Good, count_at}
use Rattle.model.proofs.CheckLaws.{AllAssignable, set_all_passes}
use Rattle.model.proofs.TableLaws.{assigned_all_good}
use Rattle.host.specs.Holding.{Host, sets_in, queue_in, table_in, state_in, Held}
use Rattle.judging.specs.Value.{values_held}
use Rattle.judging.proofs.Settings.{all_held}
use Rattle.wakings.specs.Wakings.{Place, list_of}
use Rattle.service_table.specs.Written.{tabled}
use Rattle.service_waking.specs.Lent.{Left, unwoken, Ready, treated}
use Rattle.service.specs.After.{telling, after_of}
use Rattle.service.proofs.EventLaws.{held_invariant, held_counts, poised_lent, poised_ready, after_treated, goes_on}

module _ (x : Host) (k : Held x) (p : ℕ) (i : ℤ) (bytes : List ℕ) (z : check_set_all (state_in x) p i bytes ≡ 0) where
  passed : AllAssignable (state_in x) p i bytes
  passed = set_all_passes (state_in x) p i bytes z

  -- the table with the values that passed the checks
  abbrev pub set_table : Table
  set_table = assigned_all (table_in x) (slot_of i) (held (values_in bytes))

  good : Good set_table
  good = assigned_all_good (table_in x) (slot_of i) (held (values_in bytes)) (held_invariant x k).good passed.named.slot passed.values

  -- the set that was read has at most eight semaphores
  pub all_few : {set : Set} → set ≡ get_or (sets_in x.row) (slot_of i) no_set → set.count ≤ semaphores
  all_few e = rw e (held_counts x k (slot_of i))

  pub all_lent : {y : Host} {l : List Place} {slot : ℕ} → slot ≡ slot_of i → y ≡ tabled x (assigned_all (table_in x) slot (values_held (values_in bytes))) → l ≡ list_of []
      → record { host = y; wakings = l; woken = 0 } ≡ unwoken x set_table (queue_in x.row)
  all_lent {y} es ey el =
      poised_lent x k set_table
      (ey ∙ ap₂ (λ (slot : ℕ) (vs : List ℕ). tabled x (assigned_all (table_in x) slot vs)) es (all_held (values_in bytes) passed.range)) el

  pub all_ready : Ready (unwoken x set_table (queue_in x.row))
  all_ready = poised_ready x k set_table (queue_in x.row) good (held_invariant x k).fits (held_invariant x k).distinct

  pub all_after : (engine : Engine) {slot touched : ℕ} {set : Set} {y : Left} {told : Told} → slot ≡ slot_of i → set ≡ get_or (sets_in x.row) (slot_of i) no_set → touched ≡ every_number set.count
      → y ≡ treated engine slot touched (unwoken x set_table (queue_in x.row)) 0 → told ≡ telling (pos 0) 0 y.looks y.lent.woken
      → record { host = y.lent.host; wakings = y.lent.wakings; told = told } ≡ after_of (do_set_all (waker engine) (state_in x) p i bytes)
  unfolding do_set_all
  all_after engine es et em ey etold =
      after_treated x k set_table (queue_in x.row) good (held_invariant x k).fits (held_invariant x k).distinct engine (slot_of i) (every_number (count_at (sets_in x.row) (slot_of i)))
      (ey ∙ ap₂ (λ (a b : ℕ). treated engine a b (unwoken x set_table (queue_in x.row)) 0) es (em ∙ ap (λ (s : Set). every_number s.count) et)) etold
      ∙ ap after_of (goes_on (state_in x) _ z)
