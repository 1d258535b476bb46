-- What is lent to a waking that is ready: each sleeper as the row has it; and what finishing one leaves.
use Prim.Native.Nat.{ℕ, ◌+◌, ◌≤◌, ◌<◌}
use native.Mathlib.Omega.{arith}
use mathlib.Core.Path.{◌≡◌, refl, sym, ap, ap₂, subst, ◌∙◌}
use mathlib.Core.Logic.{◌≢◌}
use mathlib.Core.List.{List, [], ◌∷◌, ◌++◌}
use lib.IntN.{ℤ, pos}
use lib.ListN.{length, get_or, set}
use Rattle.model.specs.declared.Set.{Set}
use Rattle.model.specs.declared.Waking.{Waking}
use Rattle.model.specs.declared.Operation.{Operation}
use Rattle.model.specs.declared.Copies.{Copies}
use Rattle.model.specs.declared.Judged.{Judged}
use Rattle.model.specs.declared.Outcome.{Outcome}
use Rattle.model.specs.declared.Outcome.TheVariants.{Done, Sleep, Again, Range}
use Rattle.model.specs.Limits.{semaphores, processes}
use Rattle.model.specs.State.{Table, Sleeper, no_sleeper}
use Rattle.model.specs.Judge.{code_of, decided_at, decider_of, Position}
use Rattle.model.specs.Look.{look, after, applied}
use Rattle.model.specs.Waking.{World, finish, without, waking}
use Rattle.model.specs.Invariant.{Fits, Calm, count_at}
use Rattle.model.proofs.Lists.{all_map, all_at}
use Rattle.model.proofs.WakingLaws.{finish_wakings}
use Rattle.host.specs.Parts.{order, sleeps_at, Row}
use Rattle.host.specs.Holding.{with_queue, with_table, sets_from, sets_in, entry, array_in, asleep_in, queue_in, table_in}
use Rattle.host.specs.Queue.{Queued, QueueHeld}
use Rattle.host.proofs.PartLaws.{by_groups}
use Rattle.host.proofs.QueueRows.{queued, queue_back, order_at, slot_read, array_read_back}
use Rattle.wakings.specs.Wakings.{Place, place_of, list_of, wakings_in}
use Rattle.wakings.proofs.ListLaws.{noted, take_listed}
use Rattle.service_table.specs.Numbered.{IsProcess, Numbered}
use Rattle.service_waking.specs.Lent.{Lent, world_in, lent_with, Ready, JudgedAs}

-- ---- rows with a table and a queue

-- the queue is read from its own parts
pub queue_aside : (r : Row) (t : Table) → queue_in (with_table r t) ≡ queue_in r
unfolding queue_in array_in
queue_aside r t = refl

pub sets_aside : (r : Row) (t : Table) (q : List Sleeper) → sets_in (with_queue (with_table r t) q) ≡ sets_in r
unfolding sets_from
sets_aside r t q = refl

-- one queue over another, and over a table
pub queue_over : (r : Row) (t u : Table) (q p : List Sleeper) → with_queue (with_table (with_queue (with_table r t) q) u) p ≡ with_queue (with_table r u) p
queue_over r t u q p = by_groups _ _ refl refl refl refl refl

-- a table that the row has already
pub table_same : (r : Row) (a : List ℤ) (q : List Sleeper) → with_queue (with_table r (table_in (record { row = r; adjustments = a }))) q ≡ with_queue r q
table_same r a q = by_groups _ _ refl refl refl refl refl

-- a table under a queue
pub table_under : (r : Row) (t : Table) (q : List Sleeper) → with_table (with_queue r q) t ≡ with_queue (with_table r t) q
table_under r t q = by_groups _ _ refl refl refl refl refl

-- ---- a world in what is lent

-- one world over another
pub world_over : (x : Lent) (w v : World) → lent_with (lent_with x w) v ≡ lent_with x v
unfolding lent_with
world_over x w v = rw (queue_over x.host.row w.table v.table w.queue v.queue)

-- the sets stay
pub sets_with : (x : Lent) (w : World) → sets_in (lent_with x w).host.row ≡ sets_in x.host.row
unfolding lent_with
sets_with x w = sets_aside x.host.row w.table w.queue

calm_queued : (sets : List Set) (w : World) → Calm sets w → Queued w.queue
calm_queued sets w c = queued w.queue c.fits c.distinct

-- the world that was put in
pub world_back : (x : Lent) (sets : List Set) (w : World) → Calm sets w → world_in (lent_with x w) ≡ w
unfolding world_in lent_with
world_back x sets w c =
    let q : queue_in (with_queue (with_table x.host.row w.table) w.queue) ≡ w.queue = queue_back _ w.queue (calm_queued sets w c) in
    let k : wakings_in (length w.wakings) (list_of w.wakings) ≡ w.wakings = take_listed w.wakings in
    ap₂ (λ (a : List Sleeper) (b : List Waking). record { table = w.table; queue = a; wakings = b }) q k

-- .. is ready
pub with_ready : (x : Lent) (w : World) → ((slot : ℕ) → count_at (sets_in x.host.row) slot ≤ semaphores) → Calm (sets_in x.host.row) w → Ready (lent_with x w)
with_ready x w k c =
    let b : world_in (lent_with x w) ≡ w = world_back x (sets_in x.host.row) w c in
    record {
      counts = rw (sets_with x w) k;
      holds = sym (ap (lent_with (lent_with x w)) b ∙ world_over x w w);
      calm = rw (sets_with x w, b) c;
    }

pub world_queue : (x : Lent) → (world_in x).queue ≡ queue_in x.host.row
unfolding world_in
world_queue x = refl

pub world_table : (x : Lent) → (world_in x).table ≡ table_in x.host
unfolding world_in
world_table x = refl

-- ---- what is ready

module _ (x : Lent) (r : Ready x) where
  pub ready_queued : Queued (world_in x).queue
  ready_queued = calm_queued (sets_in x.host.row) (world_in x) r.calm

  row_is : x.host.row ≡ with_queue x.host.row (world_in x).queue
  unfolding lent_with world_in
  row_is = ap (λ (y : Lent). y.host.row) r.holds ∙ table_same x.host.row x.host.adjustments (queue_in x.host.row)

  pub ready_row : QueueHeld x.host.row
  unfolding world_in
  ready_row = record { holds = row_is; fits = ready_queued }

  -- .. and with another table
  pub row_tabled : (t : Table) → QueueHeld (with_table x.host.row t)
  row_tabled t =
      record {
        holds =
            ap (λ (y : Row). with_table y t) ready_row.holds ∙ table_under x.host.row t (queue_in x.host.row)
            ∙ ap (with_queue (with_table x.host.row t)) (sym (queue_aside x.host.row t));
        fits = subst Queued (sym (queue_aside x.host.row t)) ready_row.fits;
      }

  pub asleep_all : asleep_in x.host.row ≡ length (world_in x).queue
  asleep_all = ap (λ (y : Row). asleep_in y) row_is

  pub asleep_few : asleep_in x.host.row ≤ processes
  asleep_few = omega (arith, asleep_all, ready_queued.few)

  woken_is : x.woken ≡ length (world_in x).wakings
  unfolding lent_with
  woken_is = ap (λ (y : Lent). y.woken) r.holds

  wakings_are : x.wakings ≡ list_of (world_in x).wakings
  unfolding lent_with
  wakings_are = ap (λ (y : Lent). y.wakings) r.holds

  module _ (i : ℕ) (h : i < asleep_in x.host.row) where
    pub within : i < length (world_in x).queue
    within = omega (arith, h, asleep_all)

    abbrev pub sleeper : Sleeper
    sleeper = get_or (world_in x).queue i no_sleeper

    pub woken_few : x.woken < processes
    woken_few = omega (arith, within, woken_is, r.calm.room)

    pub the_process_lem : get_or (x.host.row order) i 0 ≡ (get_or (world_in x).queue i no_sleeper).process
    the_process_lem = ap (λ (y : Row). get_or (y order) i 0) row_is ∙ order_at (world_in x).queue i within

    pub the_fit : Fits (sets_in x.host.row) (get_or (world_in x).queue i no_sleeper)
    the_fit = all_at (world_in x).queue i no_sleeper r.calm.fits within

    pub is_process : IsProcess (get_or (x.host.row order) i 0)
    is_process = rw the_process_lem (record { least = the_fit.process; most = the_fit.last })

    pub the_slot_lem : get_or (x.host.row sleeps_at) (entry (get_or (x.host.row order) i 0)) 0 ≡ (get_or (world_in x).queue i no_sleeper).slot
    the_slot_lem =
        ap (λ (p : ℕ). get_or (x.host.row sleeps_at) (entry p) 0) the_process_lem
        ∙ ap (λ (y : Row). get_or (y sleeps_at) (entry sleeper.process) 0) row_is
        ∙ slot_read (world_in x).queue ready_queued i within x.host.row

    pub the_array : array_in x.host.row (get_or (x.host.row order) i 0) ≡ (get_or (world_in x).queue i no_sleeper).array
    the_array =
        ap (array_in x.host.row) the_process_lem
        ∙ ap (λ (y : Row). array_in y sleeper.process) row_is
        ∙ array_read_back (world_in x).queue ready_queued i within x.host.row

    -- the numbers of its array are those of a set
    pub the_numbered : Numbered (get_or (world_in x).queue i no_sleeper).array
    the_numbered = all_map (λ (o : Operation) (l : o.number < count_at (sets_in x.host.row) sleeper.slot). omega (arith, l, r.counts sleeper.slot)) the_fit.numbers

    -- ---- what finishing it leaves

    module _ (o : Outcome) (n : ℕ) (c : Copies) (j : JudgedAs (world_in x).table (get_or (world_in x).queue i no_sleeper) o n c) where
      -- the table after it
      abbrev settled : Table
      settled = after (world_in x).table (get_or (world_in x).queue i no_sleeper) o c

      as_judged : (k : Outcome) → o ≡ k
          → after (world_in x).table (get_or (world_in x).queue i no_sleeper) k c
          ≡ after (world_in x).table (get_or (world_in x).queue i no_sleeper) k (look (world_in x).table (get_or (world_in x).queue i no_sleeper)).copies
      unfolding after
      as_judged Done e = ap (applied (world_in x).table sleeper) (j.copies e)
      as_judged Sleep e = refl
      as_judged Again e = refl
      as_judged Range e = refl

      settled_is : after (world_in x).table (get_or (world_in x).queue i no_sleeper) o c ≡ (finish (world_in x) i).table
      unfolding finish
      settled_is =
          as_judged o refl
          ∙ ap (λ (k : Outcome). after (world_in x).table sleeper k (look (world_in x).table sleeper).copies) j.outcome

      -- the host with that table, without the sleeper, and its waking noted
      pub finish_lent : (y : Lent) {code : ℕ} {position : Position} → pos code ≡ code_of o → position ≡ decided_at o n
          → y.host.row ≡ with_queue (with_table x.host.row (after (world_in x).table (get_or (world_in x).queue i no_sleeper) o c)) (without (world_in x).queue i)
          → y.host.adjustments ≡ (after (world_in x).table (get_or (world_in x).queue i no_sleeper) o c).adjustments
          → y.wakings ≡ set x.wakings x.woken (place_of (waking (get_or (x.host.row order) i 0) (pos code) position)) → y.woken ≡ x.woken + 1
          → y ≡ lent_with x (finish (world_in x) i)
      unfolding lent_with finish
      finish_lent y {code} {position} ec ed er ea ew en =
          let l : Judged = look (world_in x).table sleeper in
          let d : position ≡ decider_of l = ed ∙ ap₂ decided_at j.outcome j.position in
          let w : y.wakings ≡ list_of ((world_in x).wakings ++ waking sleeper.process (code_of l.outcome) (decider_of l) ∷ []) =
          ew ∙ ap₂ (λ (l : List Place) (n : ℕ). set l n (place_of (waking (get_or (x.host.row order) i 0) (pos code) position))) wakings_are woken_is
          ∙ ap₂ (λ (p : ℕ) (z : ℤ). set (list_of (world_in x).wakings) (length (world_in x).wakings) (place_of (waking p z position))) the_process_lem (ec ∙ ap code_of j.outcome)
          ∙ ap (λ (k : Position). set (list_of (world_in x).wakings) (length (world_in x).wakings) (place_of (waking sleeper.process (code_of l.outcome) k))) d
          ∙ noted (world_in x).wakings (waking sleeper.process (code_of l.outcome) (decider_of l)) (omega (arith, woken_few, woken_is)) in
          let m : y.woken ≡ length (finish (world_in x) i).wakings = en ∙ omega (arith, woken_is, finish_wakings (world_in x) i) in
          let a : y.host.row ≡ with_queue (with_table x.host.row (finish (world_in x) i).table) (without (world_in x).queue i) =
          er ∙ ap (λ (t : Table). with_queue (with_table x.host.row t) (without (world_in x).queue i)) settled_is in
          let b : y.host.adjustments ≡ (finish (world_in x) i).table.adjustments = ea ∙ ap (λ (t : Table). t.adjustments) settled_is in
          together y a b w m
        where
          together : (y : Lent) {row : Row} {adjustments : List ℤ} {wakings : List Place} {woken : ℕ} → y.host.row ≡ row → y.host.adjustments ≡ adjustments → y.wakings ≡ wakings → y.woken ≡ woken
              → y ≡ record { host = record { row = row; adjustments = adjustments }; wakings = wakings; woken = woken }
          together y {row} {adjustments} a b w n =
              ap₂ (λ (p : Row) (l : List ℤ). record { host = record { row = p; adjustments = l }; wakings = y.wakings; woken = y.woken }) a b
              ∙ ap₂ (λ (l : List Place) (m : ℕ). record { host = record { row = row; adjustments = adjustments }; wakings = l; woken = m }) w n

-- what was judged and is not done: its copies do not count
pub undone_as : {t : Table} {s : Sleeper} {o : Outcome} {i : ℕ} {c : Copies} → JudgedAs t s o i c → o ≢ Done → (d : Copies) → JudgedAs t s o i d
undone_as j k d = record { outcome = j.outcome; position = j.position; copies = λ e. absurd (k e) }

-- an array that is not done leaves the table
pub after_stays : (t : Table) (s : Sleeper) (o : Outcome) (c : Copies) → o ≢ Done → t ≡ after t s o c
unfolding after
after_stays t s Done c h = absurd (h refl)
after_stays t s Sleep c h = refl
after_stays t s Again c h = refl
after_stays t s Range c h = refl
