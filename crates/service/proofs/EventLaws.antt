-- What every event may use of the host that it is lent, and what it leaves: a refusal, or what a waking leaves.
use Rattle.std.proofs.Common.{◌≡◌, ℕ, zero, suc, ◌≤◌, List, [], length, pos, sym, refl, ap, ◌∙◌, subst, ap₂, arith}
use Rattle.model.specs.declared.Engine.{Engine}
use Rattle.model.specs.declared.Refusal.{Refusal}
use Rattle.model.specs.declared.Told.{Told}
use Rattle.model.specs.Limits.{semaphores, processes}
use Rattle.model.specs.Refusal.{errno_of}
use Rattle.model.specs.State.{Table, Sleeper, State}
use Rattle.model.specs.Waking.{World, Ended, waker}
use Rattle.model.specs.Events.{Result, checked, woken_as, world}
use Rattle.model.specs.Runs.{All}
use Rattle.model.specs.Invariant.{Good, Fits, Distinct, Invariant, Calm, count_at}
use Rattle.model.proofs.RefusalLaws.{errno_some}
use Rattle.model.proofs.Lists.{all_map}
use Rattle.model.proofs.Engines.{reached}
use Rattle.model.proofs.LookLaws.{count_fits}
use Rattle.host.specs.Parts.{Row}
use Rattle.host.specs.Holding.{Host, with_table, host_of, host_with, sets_in, callers_in, time_in, queue_in, state_in, Held}
use Rattle.host.specs.Queue.{Queued, QueueHeld}
use Rattle.host.proofs.PartLaws.{set_parts, caller_parts, clock_parts, queue_parts, by_groups}
use Rattle.host.proofs.QueueRows.{queued}
use Rattle.wakings.specs.Wakings.{Place, list_of}
use Rattle.service_table.specs.Written.{tabled}
use Rattle.service_queue.specs.Seated.{Seated}
use Rattle.service_waking.specs.declared.Tally.{Tally}
use Rattle.service_waking.specs.Lent.{Lent, Left, world_in, lent_with, left_with, unwoken, Ready, treated}
use Rattle.service_waking.proofs.LentLaws.{queue_over, table_under, with_ready, world_back}
use Rattle.service.specs.After.{telling, after_of}

-- ---- a host that holds a state

-- its state with another table and queue: sets, callers and time stay
abbrev pub state_with : Host → Table → List Sleeper → State
state_with x t q = record { sets = sets_in x.row; callers = callers_in x.row; table = t; queue = q; time = time_in x.row }

module _ (x : Host) (k : Held x) where
  abbrev queue : List Sleeper
  queue = queue_in x.row

  pub held_invariant : Invariant (state_in x)
  held_invariant = reached k.reached

  pub held_queued : Queued (queue_in x.row)
  held_queued = queued (queue_in x.row) held_invariant.fits held_invariant.distinct

  pub held_row : QueueHeld x.row
  held_row =
      record {
        holds = by_groups _ _ refl refl refl refl (ap (λ (y : Host). queue_parts y.row) k.holds);
        fits = held_queued;
      }

  pub held_seated : Seated x.row
  held_seated = record { holding = held_row; some = all_map (λ s f. f.some) held_invariant.fits }

  -- every set has at most eight semaphores
  pub held_counts : (slot : ℕ) → count_at (sets_in x.row) slot ≤ semaphores
  held_counts = count_fits held_invariant.counts

  -- another table and queue, with the sets, the callers and the time as they are
  pub host_of_lem : (t : Table) (q : List Sleeper) → host_with x t q ≡ host_of (state_with x t q)
  host_of_lem t q =
      ap (λ (r : Row). record { row = r; adjustments = t.adjustments })
      (by_groups _ _ (ap (λ (y : Host). set_parts y.row) k.holds) (ap (λ (y : Host). caller_parts y.row) k.holds) refl (ap (λ (y : Host). clock_parts y.row) k.holds) refl)

  -- another table alone
  pub tabled_with : (t : Table) → tabled x t ≡ host_with x t (queue_in x.row)
  tabled_with t =
      ap (λ (r : Row). record { row = r; adjustments = t.adjustments })
      (ap (λ (r : Row). with_table r t) held_row.holds ∙ table_under x.row t (queue_in x.row))

  -- .. as a waking is lent it
  pub poised_lent : (t : Table) {y : Host} {l : List Place} → y ≡ tabled x t → l ≡ list_of [] → record { host = y; wakings = l; woken = 0 } ≡ unwoken x t (queue_in x.row)
  poised_lent t ey el = ap₂ (λ (h : Host) (w : List Place). record { host = h; wakings = w; woken = 0 }) (ey ∙ tabled_with t) el

  -- ---- answers

  -- "A refused event returns its code, value 0, no looks and no wakings; the state is unchanged."
  pub after_refused : (code : ℕ) (does : Result) {told : Told} {wakings : List Place} → (code ≡ 0 → ⊥) → wakings ≡ list_of [] → told ≡ telling (pos code) 0 0 0
      → record { host = x; wakings = wakings; told = told } ≡ after_of (checked code (state_in x) does)
  after_refused zero does n ew et = absurd (n refl)
  after_refused (suc code) does {told} {wakings} n ew et =
      ap₂ (λ (l : List Place) (u : Told). record { host = x; wakings = l; told = u }) ew et
      ∙ ap (λ (y : Host). record { host = y; wakings = list_of []; told = telling (pos (suc code)) 0 0 0 }) k.holds

  -- .. as the checks found
  pub refused_after : (refusal : Refusal) {code : ℕ} (does : Result) {told : Told} {wakings : List Place} → errno_of refusal ≡ code → wakings ≡ list_of [] → told ≡ telling (pos (errno_of refusal)) 0 0 0
      → record { host = x; wakings = wakings; told = told } ≡ after_of (checked code (state_in x) does)
  refused_after refusal {code} does e ew et =
      after_refused code does (λ z. errno_some refusal (e ∙ z)) ew (et ∙ ap (λ (c : ℕ). telling (pos c) 0 0 0) e)

  -- ---- what a waking begins with, and what it leaves

  module _ (t : Table) (q : List Sleeper) (g : Good t) (f : All (Fits (sets_in x.row)) q) (d : Distinct q) where
    calm : Calm (sets_in x.row) (world t q)
    calm = let few : length q ≤ processes = (queued q f d).few in record { good = g; fits = f; distinct = d; room = omega (arith, few) }

    begin : Lent
    begin = record { host = x; wakings = []; woken = 0 }

    poised : unwoken x t q ≡ lent_with begin (world t q)
    unfolding begin lent_with
    poised = refl

    pub poised_ready : Ready (unwoken x t q)
    unfolding begin
    poised_ready = subst Ready (sym poised) (with_ready begin (world t q) (held_counts) calm)

    pub poised_world : world_in (unwoken x t q) ≡ world t q
    unfolding begin
    poised_world = ap world_in poised ∙ world_back begin (sets_in x.row) (world t q) calm

    -- a rule's end is the state after the event
    pub after_woken : (e : Ended) {y : Left} {told : Told} → y ≡ left_with (unwoken x t q) e → told ≡ telling (pos 0) 0 y.looks y.lent.woken
        → record { host = y.lent.host; wakings = y.lent.wakings; told = told } ≡ after_of (woken_as (state_in x) e)
    unfolding lent_with
    after_woken e {y} {told} ey et =
        ap (λ (u : Told). record { host = y.lent.host; wakings = y.lent.wakings; told = u }) et
        ∙ ap (λ (z : Left). record { host = z.lent.host; wakings = z.lent.wakings; told = telling (pos 0) 0 z.looks z.lent.woken }) ey
        ∙ ap (λ (h : Host). record { host = h; wakings = list_of e.world.wakings; told = telling (pos 0) 0 e.looks (length e.world.wakings) })
        (ap (λ (r : Row). record { row = r; adjustments = e.world.table.adjustments }) (queue_over x.row t e.world.table q e.world.queue)
        ∙ host_of_lem e.world.table e.world.queue)

    -- one set, and every live set
    pub after_treated : (engine : Engine) (slot touched : ℕ) {y : Left} {told : Told} → y ≡ treated engine slot touched (unwoken x t q) 0 → told ≡ telling (pos 0) 0 y.looks y.lent.woken
        → record { host = y.lent.host; wakings = y.lent.wakings; told = told } ≡ after_of (woken_as (state_in x) (waker engine slot touched (world t q) 0))
    after_treated engine slot touched ey et = after_woken (waker engine slot touched (world t q) 0) (ey ∙ ap (λ (w : World). left_with (unwoken x t q) (waker engine slot touched w 0)) poised_world) et

-- what an event does, once no check applies
pub goes_on : {code : ℕ} (s : State) (does : Result) → code ≡ 0 → does ≡ checked code s does
goes_on s does e = rw e

-- a waking that begins with nobody looked at
module _ {h : Host} {ws : List Place} {u : Lent} {t : Tally} (n : (t.looks ≡ 0) × (t.woken ≡ 0)) (e : record { host = h; wakings = ws; woken = 0 } ≡ u) where
  lent_so : record { host = h; wakings = ws; woken = t.woken } ≡ u
  lent_so = ap (λ (w : ℕ). record { host = h; wakings = ws; woken = w }) n.1 ∙ e

  pub begun_ready : Ready u → Ready (record { host = h; wakings = ws; woken = t.woken })
  begun_ready r = subst Ready (sym lent_so) r

  pub begun : (f : Lent → ℕ → Left) {y : Left} → y ≡ f (record { host = h; wakings = ws; woken = t.woken }) t.looks → y ≡ f u 0
  begun f ey = ey ∙ ap₂ f lent_so n.0
