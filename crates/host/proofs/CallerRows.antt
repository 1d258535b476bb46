-- The parts of the row that hold the callers: the numbers of one process, and those of all.
use Rattle.std.proofs.Common.{◌≡◌, ℕ, ◌≤◌, refl, ap, ◌∙◌}
use Rattle.model.specs.declared.Caller.{Caller}
use Rattle.model.specs.State.{caller_of}
use Rattle.model.specs.Events.{with_caller}
use Rattle.host.specs.Parts.{Row}
use Rattle.host.specs.Holding.{Host, with_callers, host_of, caller_in, with_caller_at, callers_in, sets_in, table_in, queue_in, time_in, state_in}
use Rattle.host.proofs.PartLaws.{set_parts, clock_parts, queue_parts, by_groups}
use Rattle.host.proofs.QueueRows.{entry_is}

module _ (r : Row) (p : ℕ) (some : 1 ≤ p) where
  -- the numbers of a process are those that it has among all
  pub caller_in_lem : caller_of (callers_in r) p ≡ caller_in r p
  caller_in_lem = rw (entry_is p some)

  -- a row with other numbers of a process: its other parts stay
  pub caller_put : (c : Caller) → with_caller_at r p c ≡ with_callers r (with_caller (callers_in r) p c)
  caller_put c = rw (entry_is p some)

-- a host that holds a state, with other numbers of a process: it holds the state with them
pub caller_held : (x : Host) → x ≡ host_of (state_in x) → (p : ℕ) → 1 ≤ p → (c : Caller)
    → record { row = with_caller_at x.row p c; adjustments = x.adjustments } ≡ host_of (record { sets = sets_in x.row; callers = with_caller (callers_in x.row) p c; table = table_in x; queue = queue_in x.row; time = time_in x.row })
caller_held x k p some c =
    ap (λ (r : Row). record { row = r; adjustments = x.adjustments })
    (caller_put x.row p some c
    ∙ by_groups _ _ (ap (λ (y : Host). set_parts y.row) k) refl refl (ap (λ (y : Host). clock_parts y.row) k) (ap (λ (y : Host). queue_parts y.row) k))
