-- Exit, once no check applies.
use Rattle.std.proofs.Common.{◌≡◌, ℕ, List, [], length, pos, refl, ap, ◌∙◌, ap₂}
use Rattle.model.specs.declared.Engine.{Engine}
use Rattle.model.specs.declared.Told.{Told}
use Rattle.model.specs.Limits.{slots}
use Rattle.model.specs.State.{Table, Sleeper}
use Rattle.model.specs.Checks.{check_process}
use Rattle.model.specs.Waking.{waker}
use Rattle.model.specs.Events.{exited, keep, touched_from, treat_from, world, do_exit, not_of}
use Rattle.model.specs.Runs.{All}
use Rattle.model.specs.Invariant.{Good, Fits, Distinct}
use Rattle.model.proofs.CheckLaws.{process_passes}
use Rattle.model.proofs.QueueLaws.{keep_all, keep_distinct}
use Rattle.model.proofs.TableLaws.{exited_good}
use Rattle.host.specs.Parts.{Row}
use Rattle.host.specs.Holding.{Host, with_queue, with_table, sets_from, sets_in, queue_in, table_in, state_in, Held}
use Rattle.wakings.specs.Wakings.{Place, list_of}
use Rattle.service_table.specs.Numbered.{IsProcess}
use Rattle.service_table.specs.Written.{tabled}
use Rattle.service_waking.specs.Lent.{Left, unwoken, Ready, treated_from}
use Rattle.service_waking.proofs.LentLaws.{table_under}
use Rattle.service.specs.After.{telling, after_of}
use Rattle.service.proofs.EventLaws.{held_invariant, poised_ready, poised_world, after_woken, goes_on}

pub touched_size : (t t' : Table) → length (touched_from slots 0 t t') ≡ slots
unfolding touched_from
touched_size t t' = refl

pub exit_process : (p : ℕ) → check_process p ≡ 0 → IsProcess p
exit_process p z = record { least = (process_passes p z).0; most = (process_passes p z).1 }

-- the sets do not lie in the queue's parts or the table's
exit_sets : (r : Row) (t : Table) (q : List Sleeper) → sets_in (with_queue (with_table r t) q) ≡ sets_in r
unfolding sets_from
exit_sets r t q = refl

module _ (x : Host) (k : Held x) (p : ℕ) (z : check_process p ≡ 0) where
  abbrev rest : List Sleeper
  rest = keep (not_of p) (queue_in x.row)

  good : Good (exited (table_in x) p)
  good = exited_good (table_in x) p (held_invariant x k).good (process_passes p z).0 (process_passes p z).1

  fits : All (Fits (sets_in x.row)) (keep (not_of p) (queue_in x.row))
  fits = keep_all (not_of p) (queue_in x.row) (held_invariant x k).fits

  distinct : Distinct (keep (not_of p) (queue_in x.row))
  distinct = keep_distinct (not_of p) (queue_in x.row) (held_invariant x k).distinct

  -- the process has left, and its adjustments are undone
  pub exit_lent : {r : Row} {y : Host} {l : List Place} → r ≡ with_queue x.row (keep (not_of p) (queue_in x.row))
      → y ≡ tabled (record { row = r; adjustments = x.adjustments }) (exited (table_in (record { row = r; adjustments = x.adjustments })) p) → l ≡ list_of []
      → record { host = y; wakings = l; woken = 0 } ≡ unwoken x (exited (table_in x) p) (keep (not_of p) (queue_in x.row))
  exit_lent {r} {y} {l} er ey el =
      ap₂ (λ (h : Host) (w : List Place). record { host = h; wakings = w; woken = 0 })
      (ey ∙ ap (λ (a : Row). tabled (record { row = a; adjustments = x.adjustments }) (exited (table_in (record { row = a; adjustments = x.adjustments })) p)) er
      ∙ ap (λ (a : Row). record { row = a; adjustments = (exited (table_in x) p).adjustments }) (table_under x.row (exited (table_in x) p) (keep (not_of p) (queue_in x.row))))
      el

  -- .. the masks that were gathered meanwhile
  pub exit_touched : {r : Row} {touched : List ℕ} → r ≡ with_queue x.row (keep (not_of p) (queue_in x.row))
      → touched ≡ touched_from slots 0 (table_in (record { row = r; adjustments = x.adjustments })) (exited (table_in (record { row = r; adjustments = x.adjustments })) p)
      → touched ≡ touched_from slots 0 (table_in x) (exited (table_in x) p)
  exit_touched er et =
      et ∙ ap (λ (a : Row). touched_from slots 0 (table_in (record { row = a; adjustments = x.adjustments })) (exited (table_in (record { row = a; adjustments = x.adjustments })) p)) er

  pub exit_ready : Ready (unwoken x (exited (table_in x) p) (keep (not_of p) (queue_in x.row)))
  exit_ready = poised_ready x k _ (keep (not_of p) (queue_in x.row)) good fits distinct

  pub exit_after : (engine : Engine) {touched : List ℕ} {y : Left} {told : Told} → touched ≡ touched_from slots 0 (table_in x) (exited (table_in x) p)
      → y ≡ treated_from engine 0 touched (unwoken x (exited (table_in x) p) (keep (not_of p) (queue_in x.row))) 0 → told ≡ telling (pos 0) 0 y.looks y.lent.woken
      → record { host = y.lent.host; wakings = y.lent.wakings; told = told } ≡ after_of (do_exit (waker engine) (state_in x) p)
  unfolding do_exit
  exit_after engine em ey et =
      after_woken x k _ (keep (not_of p) (queue_in x.row)) good fits distinct
      (treat_from (waker engine) (sets_in x.row) 0 (touched_from slots 0 (table_in x) (exited (table_in x) p)) (record { world = world (exited (table_in x) p) (keep (not_of p) (queue_in x.row)); looks = 0 }))
      (ey ∙ rw (em, poised_world x k _ (keep (not_of p) (queue_in x.row)) good fits distinct, exit_sets x.row (exited (table_in x) p) (keep (not_of p) (queue_in x.row))))
      et
      ∙ ap after_of (goes_on (state_in x) _ z)
