use Prim.Native.Nat.{ℕ, ◌+◌, ◌<◌}
use mathlib.Core.Path.{◌≡◌, refl, sym, ap, ap₂, subst, subst⁻¹, ◌∙◌}
use native.Mathlib.Omega.{arith}
use mathlib.Core.List.{List}
use lib.IntN.{ℤ}
use lib.ListN.{get_or}
use Rattle.model.specs.declared.Copies.{Copies}
use Rattle.model.specs.declared.Outcome.{Outcome}
use Rattle.model.specs.Limits.{semaphores}
use Rattle.model.specs.State.{no_sleeper, row}
use Rattle.model.specs.Marks.{bit_of}
use Rattle.model.specs.Waking.{finish}
use Rattle.host.specs.Parts.{values, order, sleeps_at, row_in}
use Rattle.host.specs.Rows.{from}
use Rattle.host.specs.Holding.{entry, asleep_in, table_in, queue_in}
use Rattle.host.specs.Queue.{QueueHeld}
use Rattle.service_waking.specs.Lent.{Lent, lent_in, world_in, lent_with, JudgedAs, Settleable, Finishable, quickly}
use Rattle.service_waking.proofs.LentLaws.{asleep_few, within, woken_few, is_process, ready_row}
use Rattle.service_waking.proofs.LookLaws.{values_in_lem}
use Rattle.service_waking.proofs.SettleLaws.{settleable, judged_in}
use Rattle.service_waking.proofs.WakingLoops.{Begun, begun, begun_next}
use Rattle.service_waking.proofs.QuickLoops.{quick_skips, quick_passes, quick_goes_on, quick_again_here, quick_done, quick_spent}
use Rattle.service_waking.proofs.wake_quick.Goals as goal
use Rattle.service_waking.proofs.wake_quick.Goals.{After-mark_touched-marks, else-on-ne0, then-on-ne0+else-slot_at-slot, then-on-ne0+then-slot_at-slot+else-finishes}

-- what is lent where the round began is lent still
same : {h h₀ : List ℕ} {a a₀ : List ℤ} {w w₀ : List ℕ} {n n₀ : ℕ} → h ≡ h₀ → a ≡ a₀ → w ≡ w₀ → n ≡ n₀ → lent_in h a w n ≡ lent_in h₀ a₀ w₀ n₀
same {h} {h₀} {a} {a₀} {w} {w₀} {n} {n₀} eh ea ew en =
    ap₂ (λ (k : List ℕ) (b : List ℤ). lent_in k b w n) eh ea ∙ ap₂ (lent_in h₀ a₀) ew en

-- the slot that was read is that of the sleeper at the position
read-slot : {h h₀ : List ℕ} {p slot : ℕ} → (i : ℕ) → h ≡ h₀ → p ≡ get_or (row_in h₀ order) i 0
    → slot ≡ get_or (row_in h sleeps_at) (entry p) 0 → slot ≡ get_or (row_in h₀ sleeps_at) (entry (get_or (row_in h₀ order) i 0)) 0
read-slot i eh ep e = e ∙ ap₂ (λ (k : List ℕ) (p : ℕ). get_or (row_in k sleeps_at) (entry p) 0) eh ep

-- how an array was judged on what is lent
looked-at : {x y : Lent} → y ≡ x → (i : ℕ) {o : Outcome} {n : ℕ} {k : Copies}
    → JudgedAs (table_in y.host) (get_or (queue_in y.host.row) i no_sleeper) o n k
    → JudgedAs (world_in x).table (get_or (world_in x).queue i no_sleeper) o n k
looked-at {x} e i {o} {n} {k} j = judged_in x i (subst (λ (y : Lent). JudgedAs (table_in y.host) (get_or (queue_in y.host.row) i no_sleeper) o n k) e j)

-- what a finished sleeper leaves, and the rule from there on
next : (c : After-mark_touched-marks) →
    let o = c.rounds in
    let f = c.finish.new in
    let x = lent_in o.host o.adjustments o.wakings o.tally.woken in
    let y = lent_in f.host f.adjustments f.wakings (o.tally.woken + 1) in
    Begun c.args.start.looks y (c.loop-i.tally.looks + 1) × (asleep_in (row_in f.host) < asleep_in (row_in o.host))
    × (quickly c.args.slot.index c.mark_touched-marks.result y (c.loop-i.tally.looks + 1) ≡ quickly c.args.slot.index o.marks x o.tally.looks)
next c =
    let o = c.rounds in
    let l = c.loop-i in
    let f = c.finish.new in
    let x = lent_in o.host o.adjustments o.wakings o.tally.woken in
    let r = o.invariant.0.ready in
    let k = c.look-looked.result in
    let h : l.i < asleep_in (row_in o.host) = rw c.asleep_of-n.ensures at c.loop-i-test.true in
    let e : lent_in l.host l.adjustments l.wakings l.tally.woken ≡ x = same l.invariant.0 l.invariant.1 l.invariant.2 l.invariant.3 in
    let p : c.process_at-process.result ≡ get_or (row_in o.host order) l.i 0 = rw l.invariant.0 at c.process_at-process.ensures in
    let s : c.slot_at.result ≡ get_or (row_in o.host sleeps_at) (entry (get_or (row_in o.host order) l.i 0)) 0 = read-slot l.i l.invariant.0 p c.slot_at.ensures in
    let j : JudgedAs (world_in x).table (get_or (world_in x).queue l.i no_sleeper) k.outcome k.position k.copies = looked-at e l.i c.look-looked.ensures in
    let q : lent_in f.host f.adjustments f.wakings (o.tally.woken + 1) ≡ lent_with x (finish (world_in x) l.i) =
    ap (λ (n : ℕ). lent_in f.host f.adjustments f.wakings (n + 1)) (sym l.invariant.3) ∙ c.finish.ensures ∙ ap (λ (y : Lent). lent_with y (finish (world_in y) l.i)) e in
    let n = quick_again_here c.args.slot.index x r o.tally.looks o.marks l.i l.tally.looks l.marks l.invariant.4 h c.bit_of-bit.result (rw p at c.bit_of-bit.ensures) c.if-on-ne0.true (sym s ∙ c.if-slot_at-slot.true) j
    _ o.invariant.0 (sym c.finishes.ensures ∙ c.if-finishes.true) q
    c.values_of-before.result c.values_of.result
    (c.values_of-before.ensures ∙ ap (λ (g : List ℕ). from 0 semaphores (row c.args.slot.index) (row_in g values)) l.invariant.0 ∙ values_in_lem o.host o.adjustments c.args.slot.index c.args.slot.there_is)
    (c.values_of.ensures ∙ values_in_lem f.host f.adjustments c.args.slot.index c.args.slot.there_is)
    c.mark_touched-marks.result (rw c.differing_mask-touched.ensures at c.mark_touched-marks.ensures) in
    (n.begins, n.fewer, n.same)

pub rounds-init : goal.rounds-init
rounds-init c = (begun _ _ c.requires.ready, refl)

pub invariant_of-bit_of : goal.invariant_of-bit_of
invariant_of-bit_of c =
    let o = c.rounds in
    let l = c.loop-i in
    let p : c.process_at-process.result ≡ get_or (row_in o.host order) l.i 0 = rw l.invariant.0 at c.process_at-process.ensures in
    rw p (record { there_is = is_process (lent_in o.host o.adjustments o.wakings o.tally.woken) o.invariant.0.ready l.i (rw c.asleep_of-n.ensures at c.loop-i-test.true) })

pub look-looked-requires : goal.look-looked-requires
look-looked-requires c =
    let o = c.rounds in
    let l = c.loop-i in
    let x = lent_in o.host o.adjustments o.wakings o.tally.woken in
    let r = o.invariant.0.ready in
    subst⁻¹ (λ (y : Lent). Settleable y.host l.i) (same l.invariant.0 l.invariant.1 l.invariant.2 l.invariant.3)
    (settleable x r l.i (within x r l.i (rw c.asleep_of-n.ensures at c.loop-i-test.true)))

pub finish-requires : goal.finish-requires
finish-requires c =
    let o = c.rounds in
    let l = c.loop-i in
    let k = c.look-looked.result in
    let x = lent_in o.host o.adjustments o.wakings o.tally.woken in
    let r = o.invariant.0.ready in
    let e : lent_in l.host l.adjustments l.wakings l.tally.woken ≡ x = same l.invariant.0 l.invariant.1 l.invariant.2 l.invariant.3 in
    subst⁻¹ (λ (y : Lent). Finishable y l.i k.outcome k.position k.copies) e
    (record {
      ready = r;
      there = within x r l.i (rw c.asleep_of-n.ensures at c.loop-i-test.true);
      finished = sym c.finishes.ensures ∙ c.if-finishes.true;
      judged = looked-at e l.i c.look-looked.ensures;
    })

pub overflow_add-tally-then-finishes : goal.overflow_add-tally-then-finishes
overflow_add-tally-then-finishes c =
    let o = c.rounds in
    let l = c.loop-i in
    let x = lent_in o.host o.adjustments o.wakings o.tally.woken in
    record { fits = omega (arith, l.invariant.3, woken_few x o.invariant.0.ready l.i (rw c.asleep_of-n.ensures at c.loop-i-test.true)) }

pub mark_touched-marks-requires : goal.mark_touched-marks-requires
mark_touched-marks-requires c =
    let o = c.rounds in
    let l = c.loop-i in
    let f = c.finish.new in
    let x = lent_in o.host o.adjustments o.wakings o.tally.woken in
    let h : l.i < asleep_in (row_in o.host) = rw c.asleep_of-n.ensures at c.loop-i-test.true in
    let e : lent_in l.host l.adjustments l.wakings l.tally.woken ≡ x = same l.invariant.0 l.invariant.1 l.invariant.2 l.invariant.3 in
    let q : lent_in f.host f.adjustments f.wakings (l.tally.woken + 1) ≡ lent_with x (finish (world_in x) l.i) = c.finish.ensures ∙ ap (λ (y : Lent). lent_with y (finish (world_in y) l.i)) e in
    subst (λ (y : Lent). QueueHeld y.host.row) (sym q)
    (ready_row _ (begun_next _ x o.tally.looks l.i (l.tally.looks + 1) o.invariant.0 h (omega (arith, l.invariant.4.looks, h, asleep_few x o.invariant.0.ready))).ready)

pub rounds-smaller : goal.rounds-smaller
rounds-smaller c = (next (goal.at.rounds-smaller c).After-mark_touched-marks).1

pub rounds-preserved : goal.rounds-preserved
rounds-preserved c =
    let n = next (goal.at.rounds-preserved c).After-mark_touched-marks in
    rw c.loop-i.invariant.3 (n.0, n.2 ∙ c.rounds.invariant.1)

pub loop-i-preserved : goal.loop-i-preserved
loop-i-preserved c =
    let o = c.rounds in
    let l = c.loop-i in
    let x = lent_in o.host o.adjustments o.wakings o.tally.woken in
    let r = o.invariant.0.ready in
    let h : l.i < asleep_in (row_in o.host) = rw c.asleep_of-n.ensures at c.loop-i-test.true in
    let e : lent_in l.host l.adjustments l.wakings l.tally.woken ≡ x = same l.invariant.0 l.invariant.1 l.invariant.2 l.invariant.3 in
    let p : c.process_at-process.result ≡ get_or (row_in o.host order) l.i 0 = rw l.invariant.0 at c.process_at-process.ensures in
    let b : c.bit_of-bit.result ≡ bit_of (get_or (row_in o.host order) l.i 0) = rw p at c.bit_of-bit.ensures in
    elim c.if-on-ne0.branch [
      | then-on-ne0+then-slot_at-slot+else-finishes w ↦ rw (w.tally-is, w.marks-is) (l.invariant.0, l.invariant.1, l.invariant.2, l.invariant.3, quick_goes_on _ x r o.tally.looks o.marks l.i l.tally.looks l.marks l.invariant.4 h c.bit_of-bit.result b w.if-on-ne0.true (sym (read-slot l.i l.invariant.0 p w.slot_at.ensures) ∙ w.if-slot_at-slot.true) (looked-at e l.i w.look-looked.ensures) (sym w.finishes.ensures ∙ w.if-finishes.false))
      | then-on-ne0+else-slot_at-slot w ↦ rw (w.tally-is, w.marks-is) (l.invariant.0, l.invariant.1, l.invariant.2, l.invariant.3, quick_skips _ x r o.tally.looks o.marks l.i l.tally.looks l.marks l.invariant.4 h (λ z. w.if-slot_at-slot.false (read-slot l.i l.invariant.0 p w.slot_at.ensures ∙ z)))
      | else-on-ne0 w ↦ rw (w.tally-is, w.marks-is) (l.invariant.0, l.invariant.1, l.invariant.2, l.invariant.3, quick_passes _ x r o.tally.looks o.marks l.i l.tally.looks l.marks l.invariant.4 h c.bit_of-bit.result b w.if-on-ne0.false)
    ]

pub returns-after-loop-i : goal.returns-after-loop-i
returns-after-loop-i c =
    let o = c.rounds in
    let l = c.loop-i in
    ap (λ (y : Lent). record { lent = y; looks = l.tally.looks }) (same l.invariant.0 l.invariant.1 l.invariant.2 l.invariant.3)
    ∙ quick_done _ (lent_in o.host o.adjustments o.wakings o.tally.woken) o.invariant.0.ready o.tally.looks o.marks l.i l.tally.looks l.marks l.invariant.4 (rw c.asleep_of-n.ensures at c.loop-i-test.false)
    ∙ o.invariant.1

pub returns-then-marks-eq0 : goal.returns-then-marks-eq0
returns-then-marks-eq0 c =
    let o = c.rounds in
    let l = c.loop-i in
    ap (λ (y : Lent). record { lent = y; looks = l.tally.looks }) (same l.invariant.0 l.invariant.1 l.invariant.2 l.invariant.3)
    ∙ quick_spent _ (lent_in o.host o.adjustments o.wakings o.tally.woken) o.invariant.0.ready o.tally.looks o.marks l.i l.tally.looks l.marks l.invariant.4 c.if-marks-eq0.true
    ∙ o.invariant.1
