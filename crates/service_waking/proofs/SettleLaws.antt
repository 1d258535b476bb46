-- Settling an array: what is read of its sleeper, and that what is written is what it leaves.
use Prim.Native.Nat.{ℕ, ◌+◌, ◌%◌, ◌<◌}
use native.Mathlib.Omega.{arith}
use mathlib.Core.Path.{◌≡◌, refl, sym, ap, ap₂, subst, ◌∙◌}
use mathlib.Core.Bool.{true}
use mathlib.Core.List.{List}
use lib.IntN.{ℤ, pos, nat_abs}
use lib.ListN.{length, get_or, set}
use Rattle.model.specs.declared.Copies.{Copies}
use Rattle.model.specs.declared.Outcome.{Outcome}
use Rattle.model.specs.declared.Outcome.TheVariants.{Done, Sleep, Again, Range}
use Rattle.model.specs.Limits.{semaphores, processes}
use Rattle.model.specs.State.{Table, Sleeper, no_sleeper, row}
use Rattle.model.specs.Operation.{operations_of}
use Rattle.model.specs.Judge.{judged, code_of, decided_at, finishes, Position}
use Rattle.model.specs.Look.{after, values_of, adjustments_of}
use Rattle.model.specs.Marks.{named}
use Rattle.model.specs.Waking.{without, waking, finish}
use Rattle.model.specs.Invariant.{Good, Fits}
use Rattle.model.proofs.Positions.{position_small}
use Rattle.host.specs.Parts.{Part, order, sleeps_at, names, Row}
use Rattle.host.specs.Rows.{from, undo_at}
use Rattle.host.specs.Holding.{Host, by_process, the_slot, with_queue, with_table, entry, array_in, asleep_in, sets_in, queue_in, table_in}
use Rattle.host.specs.Queue.{QueueHeld}
use Rattle.host.proofs.QueueRows.{order_at, kept_read, array_read_back}
use Rattle.judging.specs.Walk.{walk_from}
use Rattle.wakings.specs.Wakings.{Place, place_of}
use Rattle.service_table.specs.Numbered.{Numbered}
use Rattle.service_table.specs.Written.{tabled, with_copies}
use Rattle.service_table.proofs.WrittenLaws.{sized_good, copies_applied}
use Rattle.service_waking.specs.Lent.{Lent, world_in, lent_with, Ready, JudgedAs, Settleable}
use Rattle.service_waking.proofs.LookLaws.{values_read, undo_read, judged_as}
use Rattle.service_waking.proofs.LentLaws.{queue_aside, ready_row, row_tabled, world_queue, world_table, asleep_all, the_fit, the_numbered, finish_lent}

module _ (x : Host) (at : ℕ) (k : Settleable x at) where
  abbrev sleeper : Sleeper
  sleeper = get_or (queue_in x.row) at no_sleeper

  settled_process : get_or (x.row order) at 0 ≡ (get_or (queue_in x.row) at no_sleeper).process
  settled_process = ap (λ (y : Row). get_or (y order) at 0) k.holding.holds ∙ order_at (queue_in x.row) at k.there

  -- a number that it keeps by its process, as it was read
  pub settled_kept : (part : Part) (g : Sleeper → ℕ) → with_queue x.row (queue_in x.row) part ≡ by_process g processes 1 (queue_in x.row)
      → {process n : ℕ} → process ≡ get_or (x.row order) at 0 → n ≡ get_or (x.row part) (entry process) 0 → n ≡ g (get_or (queue_in x.row) at no_sleeper)
  settled_kept part g e ep en =
      en ∙ ap (λ (p : ℕ). get_or (x.row part) (entry p) 0) (ep ∙ settled_process)
      ∙ ap (λ (y : Row). get_or (y part) (entry sleeper.process) 0) k.holding.holds
      ∙ ap (λ (l : List ℕ). get_or l (entry sleeper.process) 0) e
      ∙ kept_read (queue_in x.row) k.holding.fits at k.there g

  pub settled_array : array_in x.row (get_or (x.row order) at 0) ≡ (get_or (queue_in x.row) at no_sleeper).array
  settled_array =
      ap (array_in x.row) settled_process ∙ ap (λ (y : Row). array_in y sleeper.process) k.holding.holds
      ∙ array_read_back (queue_in x.row) k.holding.fits at k.there x.row

  -- a look: the copies that were read, walked over
  module _ {process slot : ℕ} {bytes values : List ℕ} {undo : List ℤ} (ep : process ≡ get_or (x.row order) at 0) (es : slot ≡ get_or (x.row sleeps_at) (entry process) 0)
      (eb : bytes ≡ array_in x.row process) (ev : values ≡ from 0 semaphores (row slot) (table_in x).values) (eu : undo ≡ from (pos 0) semaphores (undo_at process slot) (table_in x).adjustments)
      (o : Outcome) (i : ℕ) (c : Copies) (e : judged o i c ≡ walk_from (operations_of bytes) (record { values = values; adjustments = undo }) 0) where
    p_is : process ≡ sleeper.process
    p_is = ep ∙ settled_process

    s_is : slot ≡ sleeper.slot
    s_is = settled_kept sleeps_at the_slot refl ep es

    b_is : bytes ≡ sleeper.array
    b_is = eb ∙ ap (array_in x.row) ep ∙ settled_array

    v_is : values ≡ values_of (table_in x) sleeper.slot
    v_is = ev ∙ ap (λ (n : ℕ). from 0 semaphores (row n) (table_in x).values) s_is ∙ values_read (table_in x) sleeper.slot k.good.values k.fits.slot

    u_is : undo ≡ adjustments_of (table_in x) sleeper.process sleeper.slot
    u_is =
        eu ∙ ap₂ (λ (m n : ℕ). from (pos 0) semaphores (undo_at m n) (table_in x).adjustments) p_is s_is
        ∙ undo_read (table_in x) sleeper.process sleeper.slot k.good.adjustments k.fits.process k.fits.last k.fits.slot

    pub looked : JudgedAs (table_in x) (get_or (queue_in x.row) at no_sleeper) o i c
    looked = judged_as (table_in x) sleeper bytes values undo o i c b_is v_is u_is e

  -- done: the copies are written
  pub settle_done : (c : Copies) {o : Outcome} {process slot mask : ℕ} {y : Host} → o ≡ Done → length c.values ≡ semaphores → length c.adjustments ≡ semaphores
      → process ≡ get_or (x.row order) at 0 → slot ≡ get_or (x.row sleeps_at) (entry process) 0 → mask ≡ get_or (x.row names) (entry process) 0
      → y ≡ with_copies x process slot mask c → y ≡ tabled x (after (table_in x) (get_or (queue_in x.row) at no_sleeper) o c)
  unfolding after
  settle_done c {o} {process} {slot} {mask} eo lv lu ep es em ey =
      let p : process ≡ sleeper.process = ep ∙ settled_process in
      let s : slot ≡ sleeper.slot = settled_kept sleeps_at the_slot refl ep es in
      let m : mask ≡ named sleeper = settled_kept names named refl ep em in
      ey ∙ ap₂ (λ (u v : ℕ). with_copies x u v mask c) p s
      ∙ copies_applied x (sized_good x k.good) sleeper k.fits.slot (record { least = k.fits.process; most = k.fits.last }) k.numbered c lv lu mask m
      ∙ rw eo

-- what is ready can be settled
pub settleable : (x : Lent) → Ready x → (at : ℕ) → at < length (world_in x).queue → Settleable x.host at
settleable x r at h =
    let a : at < asleep_in x.host.row = omega (arith, h, asleep_all x r) in
    record {
      holding = ready_row x r;
      there = subst (λ (q : List Sleeper). at < length q) (world_queue x) h;
      fits = subst (λ (q : List Sleeper). Fits (sets_in x.host.row) (get_or q at no_sleeper)) (world_queue x) (the_fit x r at a);
      numbered = subst (λ (q : List Sleeper). Numbered (get_or q at no_sleeper).array) (world_queue x) (the_numbered x r at a);
      good = subst Good (world_table x) r.calm.good;
    }

-- the code that is told
pub ending_is : (o : Outcome) → finishes o ≡ true → pos (nat_abs (code_of o)) ≡ code_of o
unfolding finishes code_of
ending_is Done f = refl
ending_is Sleep f = let z : ◌≡◌ {A = ℕ} 0 1 = cc in absurd (omega arith)
ending_is Again f = refl
ending_is Range f = refl

-- ---- the sleeper at a position is finished

module _ (x : Lent) (r : Ready x) (at : ℕ) (there : at < length (world_in x).queue) (o : Outcome) (c : Copies)
    {h₁ : Host} (e₁ : h₁ ≡ tabled x.host (after (table_in x.host) (get_or (queue_in x.host.row) at no_sleeper) o c)) where
  abbrev settled : Table
  settled = after (table_in x.host) (get_or (queue_in x.host.row) at no_sleeper) o c

  row_there : h₁.row ≡ with_table x.host.row (after (table_in x.host) (get_or (queue_in x.host.row) at no_sleeper) o c)
  row_there = ap (λ (y : Host). y.row) e₁

  queue_there : queue_in h₁.row ≡ queue_in x.host.row
  queue_there = ap queue_in row_there ∙ queue_aside x.host.row settled

  pub finish_row : QueueHeld h₁.row
  finish_row = subst QueueHeld (sym row_there) (row_tabled x r settled)

  pub finish_there : at < length (queue_in h₁.row)
  finish_there = subst (λ (q : List Sleeper). at < length q) (world_queue x ∙ sym queue_there) there

  pub finish_all : {i : ℕ} → JudgedAs (world_in x).table (get_or (world_in x).queue at no_sleeper) o i c → finishes o ≡ true
      → {process code : ℕ} {position : Position} {r₂ : Row} {ws : List Place} → process ≡ get_or (x.host.row order) at 0 → r₂ ≡ with_queue h₁.row (without (queue_in h₁.row) at) → code ≡ nat_abs (code_of o)
      → position ≡ decided_at o (i % 256) → ws ≡ set x.wakings x.woken (place_of (waking process (pos code) position))
      → record { host = record { row = r₂; adjustments = h₁.adjustments }; wakings = ws; woken = x.woken + 1 } ≡ lent_with x (finish (world_in x) at)
  unfolding world_in
  finish_all {i} j f {process} {code} {position} ep er ec ed ew =
      let h : at < asleep_in x.host.row = omega (arith, there, asleep_all x r) in
      let n : i % 256 ≡ i = omega (arith, j.position, position_small (world_in x).table _ (the_fit x r at h)) in
      finish_lent x r at h o i c j _ (ap pos ec ∙ ending_is o f) (ed ∙ ap (decided_at o) n)
      (er ∙ ap₂ (λ (a : Row) (q : List Sleeper). with_queue a (without q at)) row_there queue_there)
      (ap (λ (y : Host). y.adjustments) e₁)
      (ew ∙ ap (λ (p : ℕ). set x.wakings x.woken (place_of (waking p (pos code) position))) ep)
      refl

-- a look at what is lent is a look at its world
pub judged_in : (x : Lent) (at : ℕ) {o : Outcome} {i : ℕ} {c : Copies} → JudgedAs (table_in x.host) (get_or (queue_in x.host.row) at no_sleeper) o i c
    → JudgedAs (world_in x).table (get_or (world_in x).queue at no_sleeper) o i c
unfolding world_in
judged_in x at j = j
