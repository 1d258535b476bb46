-- Clock, once its check does not apply: the time is told, and those who are due are ended.
use Rattle.std.proofs.Common.{◌≡◌, ℕ, List, length, set, pos, sym, refl, ap, ◌∙◌, subst, ap₂}
use Rattle.model.specs.declared.Told.{Told}
use Rattle.model.specs.declared.Waking.{Waking}
use Rattle.model.specs.State.{Sleeper, State}
use Rattle.model.specs.Clock.{due, not_due}
use Rattle.model.specs.Checks.{check_clock}
use Rattle.model.specs.Events.{keep, ended_with, do_clock}
use Rattle.host.specs.Parts.{clock, Row, with, put}
use Rattle.host.specs.Holding.{Host, with_queue, with_time, host_of, array_in, sets_in, callers_in, queue_in, table_in, state_in, Held}
use Rattle.host.specs.Queue.{Queued, QueueHeld}
use Rattle.host.proofs.PartLaws.{set_parts, caller_parts, queue_parts, by_groups}
use Rattle.wakings.specs.Wakings.{Place, list_of}
use Rattle.service.specs.After.{telling, after_of}
use Rattle.service.proofs.EventLaws.{held_row, held_queued, goes_on}

module _ (x : Host) (k : Held x) (time : ℕ) (z : check_clock (state_in x) time ≡ 0) where
  abbrev timed : Row
  timed = with_time x.row time

  queue_kept : queue_in timed ≡ queue_in x.row
  unfolding queue_in array_in
  queue_kept = refl

  -- the state with another queue, at this time
  abbrev at : List Sleeper → State
  at q = record { sets = sets_in x.row; callers = callers_in x.row; table = table_in x; queue = q; time = time }

  host_at : (q : List Sleeper) → record { row = with_queue timed q; adjustments = x.adjustments } ≡ host_of (at q)
  host_at q = ap (λ (r : Row). record { row = r; adjustments = x.adjustments }) (by_groups _ _ (ap (λ (y : Host). set_parts y.row) k.holds) (ap (λ (y : Host). caller_parts y.row) k.holds) refl refl refl)

  module _ {r : Row} (er : r ≡ put x.row clock 0 time) where
    there : r ≡ timed
    there = er ∙ ap (λ (l : List ℕ). with x.row clock (set l 0 time)) (ap (λ (y : Host). y.row clock) k.holds)

    queue_there : queue_in r ≡ queue_in x.row
    queue_there = ap queue_in there ∙ queue_kept

    pub timed_row : QueueHeld r
    timed_row =
        record {
          holds = there ∙ by_groups _ _ refl refl refl refl (ap queue_parts (held_row x k).holds) ∙ ap₂ with_queue (sym there) (sym queue_there);
          fits = subst Queued (sym queue_there) (held_queued x k);
        }

    pub expired_after : {r' : Row} {l : List Place} {woken : ℕ} {told : Told} → r' ≡ with_queue r (keep (not_due time) (queue_in r))
        → l ≡ list_of (ended_with (pos 11) (due time) (queue_in r)) → woken ≡ length (ended_with (pos 11) (due time) (queue_in r)) → told ≡ telling (pos 0) 0 0 woken
        → record { host = record { row = r'; adjustments = x.adjustments }; wakings = l; told = told } ≡ after_of (do_clock (state_in x) time)
    unfolding do_clock
    expired_after {r'} {l} {woken} {told} ek el en et =
        let q : List Sleeper = keep (not_due time) (queue_in x.row) in
        let w : List Waking = ended_with (pos 11) (due time) (queue_in x.row) in
        let h : record { row = r'; adjustments = x.adjustments } ≡ host_of (at q) =
        ap (λ (a : Row). record { row = a; adjustments = x.adjustments }) (ek ∙ ap₂ (λ (a : Row) (b : List Sleeper). with_queue a (keep (not_due time) b)) there queue_there) ∙ host_at q in
        let u : told ≡ telling (pos 0) 0 0 (length w) = et ∙ ap (λ (n : ℕ). telling (pos 0) 0 0 n) (en ∙ ap (λ (a : List Sleeper). length (ended_with (pos 11) (due time) a)) queue_there) in
        ap₂ (λ (a : Host) (b : List Place). record { host = a; wakings = b; told = told }) h (el ∙ ap (λ (a : List Sleeper). list_of (ended_with (pos 11) (due time) a)) queue_there)
        ∙ ap (λ (v : Told). record { host = host_of (at q); wakings = list_of w; told = v }) u
        ∙ ap after_of (goes_on (state_in x) _ z)
