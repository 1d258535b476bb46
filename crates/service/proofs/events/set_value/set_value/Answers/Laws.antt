-- Set value, once no check applies.
use Rattle.std.proofs.Common.{◌≡◌, ℕ, ◌^◌, ◌<◌, not, leb, List, [], ℤ, pos, nat_abs, ap, ◌∙◌, ap₂, zero-lt-suc, arith}
use borrow.Author.Tests.{not-false}
use Rattle.model.specs.declared.Engine.{Engine}
use Rattle.model.specs.declared.Told.{Told}
use Rattle.model.specs.Limits.{semaphores}
use Rattle.model.specs.State.{State}
use Rattle.model.specs.Permission.{altering}
use Rattle.model.specs.Checks.{in_range, slot_of, set_of, check_access, check_set_value}
use Rattle.model.specs.Waking.{waker}
use Rattle.model.specs.Events.{assigned, do_set_value}
use Rattle.model.specs.Invariant.{Good}
use Rattle.model.proofs.CheckLaws.{passes, passes_both, Assignable, set_value_passes}
use Rattle.model.proofs.TableLaws.{assigned_good}
use Rattle.host.specs.Holding.{Host, queue_in, table_in, state_in, Held}
use Rattle.judging.specs.Value.{value_of}
use Rattle.wakings.specs.Wakings.{Place, list_of}
use Rattle.service_table.specs.Written.{tabled}
use Rattle.service_waking.specs.Lent.{Left, unwoken, Ready, treated}
use Rattle.service.specs.After.{telling, after_of}
use Rattle.service.proofs.EventLaws.{held_invariant, held_counts, poised_lent, poised_ready, after_treated, goes_on}

-- a value that passed the checks is what the semaphore will hold
pub value_kept : (s : State) (p : ℕ) (i : ℤ) (n : ℕ) (v : ℤ) → check_set_value s p i n v ≡ 0 → value_of v ≡ nat_abs v
unfolding check_set_value value_of
value_kept s p i n v z =
    let a = passes_both (check_access s p i altering) _ z in
    let b = passes (leb (set_of s i).count n) 22 _ (zero-lt-suc 21) a.1 in
    let c = passes (not (in_range v)) 34 0 (zero-lt-suc 33) b.1 in
    rw (not-false (in_range v) c.0)

module _ (x : Host) (k : Held x) (p : ℕ) (i : ℤ) (n : ℕ) (v : ℤ) (z : check_set_value (state_in x) p i n v ≡ 0) where
  pub set_passed : Assignable (state_in x) p i n v
  set_passed = set_value_passes (state_in x) p i n v z

  pub set_number : n < semaphores
  set_number = omega (arith, set_passed.numbered.number, held_counts x k (slot_of i))

  good : Good (assigned (table_in x) (slot_of i) n (nat_abs v))
  good = assigned_good (table_in x) (slot_of i) n (nat_abs v) (held_invariant x k).good set_passed.value

  pub set_lent : {y : Host} {l : List Place} → y ≡ tabled x (assigned (table_in x) (slot_of i) n (nat_abs v)) → l ≡ list_of []
      → record { host = y; wakings = l; woken = 0 } ≡ unwoken x (assigned (table_in x) (slot_of i) n (nat_abs v)) (queue_in x.row)
  set_lent ey el = poised_lent x k (assigned (table_in x) (slot_of i) n (nat_abs v)) ey el

  pub set_ready : Ready (unwoken x (assigned (table_in x) (slot_of i) n (nat_abs v)) (queue_in x.row))
  set_ready = poised_ready x k _ (queue_in x.row) good (held_invariant x k).fits (held_invariant x k).distinct

  pub set_after : (engine : Engine) {slot touched : ℕ} {y : Left} {told : Told} → slot ≡ slot_of i → touched ≡ 2 ^ n
      → y ≡ treated engine slot touched (unwoken x (assigned (table_in x) (slot_of i) n (nat_abs v)) (queue_in x.row)) 0 → told ≡ telling (pos 0) 0 y.looks y.lent.woken
      → record { host = y.lent.host; wakings = y.lent.wakings; told = told } ≡ after_of (do_set_value (waker engine) (state_in x) p i n v)
  unfolding do_set_value
  set_after engine es em ey et =
      after_treated x k _ (queue_in x.row) good (held_invariant x k).fits (held_invariant x k).distinct engine (slot_of i) (2 ^ n)
      (ey ∙ ap₂ (λ (a b : ℕ). treated engine a b (unwoken x (assigned (table_in x) (slot_of i) n (nat_abs v)) (queue_in x.row)) 0) es em) et
      ∙ ap after_of (goes_on (state_in x) _ z)
