-- What holds of the world inside a waking, in both engines; and how often an event looks.
use Prim.Native.Nat.{ℕ, ◌+◌, ◌≤◌, ◌<◌}
use native.Mathlib.Omega.{arith}
use mathlib.Core.Path.{◌≡◌, refl}
use mathlib.Core.Bool.{Bool, true, false, cond}
use mathlib.Core.List.{List, [], ◌∷◌}
use lib.Dec.{eqb, leb}
use lib.ListN.{length, get_or}
use borrow.Author.Tests.{leb-true, leb-false, eqb-true, eqb-false}
use Rattle.model.specs.declared.Set.{Set}
use Rattle.model.specs.declared.Engine.{Engine}
use Rattle.model.specs.Limits.{processes}
use Rattle.model.specs.State.{Sleeper, no_sleeper}
use Rattle.model.specs.Look.{look}
use Rattle.model.specs.Marks.{mine}
use Rattle.model.specs.Waking.{World, Ended, Waker, waker, finish, plain, quick}
use Rattle.model.specs.Checks.{live}
use Rattle.model.specs.Counts.{count_of}
use Rattle.model.specs.Events.{treat, treat_from}
use Rattle.model.specs.Runs.{All}
use Rattle.model.proofs.Lists.{all_at, all_without}
use Rattle.model.specs.Invariant.{Fits, Calm}
use Rattle.model.proofs.JudgeLaws.{either}
use Rattle.model.proofs.LookLaws.{look_fine, after_good}
use Rattle.model.proofs.QueueLaws.{distinct_without}
use Rattle.model.proofs.WakingLaws.{finish_length, finish_wakings}
use Rattle.model.proofs.Rules.{sum_to, Looked, plain_looked, quick_looked, sum_to_mono, sum_to_add, sum_to_7, sum_to_8, count_fewer, count_length, KeptByFinish, Tame, tame}

module _ {sets : List Set} where
  pub finish_calm : (w : World) (i : ℕ) → Calm sets w → i < length w.queue → Calm sets (finish w i)
  unfolding finish
  finish_calm w i c h =
      let s : Sleeper = get_or w.queue i no_sleeper in
      let f : Fits sets s = all_at w.queue i no_sleeper c.fits h in
      record {
        good = after_good w.table s c.good f (look w.table s).outcome (look w.table s).copies (look_fine w.table s c.good f);
        fits = all_without w.queue i c.fits;
        distinct = distinct_without w.queue i c.distinct;
        room = omega (arith, c.room, finish_length w i h, finish_wakings w i);
      }

  calm_kept : (slot : ℕ) → KeptByFinish slot (Calm sets)
  calm_kept slot w i c h mi e = finish_calm w i c h

  -- a waking keeps it
  pub wake_calm : (engine : Engine) (slot touched : ℕ) (w : World) (l : ℕ) → Calm sets w → Calm sets (waker engine slot touched w l).world
  wake_calm engine slot touched w l = (tame engine).keeps slot touched w l (Calm sets) (calm_kept slot)

-- ---- what a waking keeps

-- what each finish keeps, a waking of several sets keeps
pub treat_from_keeps : (engine : Engine) (sets : List Set) (K : World → Type 0) → ((slot : ℕ) → KeptByFinish slot K) → (slot : ℕ) (touches : List ℕ) (e : Ended) → K e.world
    → K (treat_from (waker engine) sets slot touches e).world
unfolding treat_from treat
treat_from_keeps engine sets K kept slot [] e h = h
treat_from_keeps engine sets K kept slot (touched ∷ more) e h =
    treat_from_keeps engine sets K kept (slot + 1) more (treat (waker engine) sets slot touched e)
    (either (λ (x : Ended). K x.world) (live sets slot) _ _ ((tame engine).keeps slot touched e.world e.looks K (kept slot) h) h)

-- nobody new sleeps: what holds of all sleepers still does
abbrev pub Asleep : (Sleeper → Type 0) → World → Type 0
Asleep P w = All P w.queue

pub asleep_kept : (P : Sleeper → Type 0) (slot : ℕ) → KeptByFinish slot (Asleep P)
unfolding finish
asleep_kept P slot w i h lt mi e = all_without w.queue i h

-- ---- looks

-- is the sleeper's set this one or a later one?
abbrev pub from_slot : ℕ → Sleeper → Bool
from_slot slot s = leb slot s.slot

-- the sleepers of a set, and those of the later ones
shares : (slot : ℕ) (q : List Sleeper) → count_of (mine slot) q + count_of (from_slot (slot + 1)) q ≡ count_of (from_slot slot) q
unfolding count_of mine
shares slot [] = refl
shares slot (s ∷ q) = go (eqb s.slot slot) refl (leb (slot + 1) s.slot) refl (leb slot s.slot) refl (shares slot q)
  where
    go : (x : Bool) → eqb s.slot slot ≡ x → (y : Bool) → leb (slot + 1) s.slot ≡ y → (z : Bool) → leb slot s.slot ≡ z
        → count_of (mine slot) q + count_of (from_slot (slot + 1)) q ≡ count_of (from_slot slot) q
        → cond x 1 0 + count_of (mine slot) q + (cond y 1 0 + count_of (from_slot (slot + 1)) q) ≡ cond z 1 0 + count_of (from_slot slot) q
    go true ex true ey z ez h = absurd (omega (arith, eqb-true s.slot slot ex, leb-true (slot + 1) s.slot ey))
    go true ex false ey true ez h = omega arith
    go true ex false ey false ez h = absurd (omega (arith, eqb-true s.slot slot ex, leb-false slot s.slot ez))
    go false ex true ey true ez h = omega arith
    go false ex true ey false ez h = absurd (omega (arith, leb-true (slot + 1) s.slot ey, leb-false slot s.slot ez))
    go false ex false ey true ez h = absurd (omega (arith, eqb-false s.slot slot ex, leb-false (slot + 1) s.slot ey, leb-true slot s.slot ez))
    go false ex false ey false ez h = omega arith

module _ (wake : Waker) (t : Tame wake) (sets : List Set) where
  -- nobody new sleeps
  fewer : (test : Sleeper → Bool) (slot touched : ℕ) (e : Ended) → count_of test (treat wake sets slot touched e).world.queue ≤ count_of test e.world.queue
  unfolding treat finish
  fewer test slot touched e =
      either (λ (x : Ended). count_of test x.world.queue ≤ count_of test e.world.queue) (live sets slot) _ _
      (t.keeps slot touched e.world e.looks (λ (w : World). count_of test w.queue ≤ count_of test e.world.queue) (λ w i h lt mi c. omega (arith, h, count_fewer test w.queue i)) (omega arith))
      (omega arith)

  pub treat_looked : (slot touched : ℕ) (e : Ended) → Looked e.looks (count_of (mine slot) e.world.queue) (treat wake sets slot touched e).looks
  unfolding treat
  treat_looked slot touched e =
      either (λ (x : Ended). Looked e.looks (count_of (mine slot) e.world.queue) x.looks) (live sets slot) _ _
      (t.looked slot touched e.world e.looks)
      (record { more = omega arith; most = omega arith })

  pub treat_from_looked : (slot : ℕ) (touches : List ℕ) (e : Ended) → Looked e.looks (count_of (from_slot slot) e.world.queue) (treat_from wake sets slot touches e).looks
  unfolding treat_from
  treat_from_looked slot [] e = record { more = omega arith; most = omega arith }
  treat_from_looked slot (touched ∷ touches) e =
      let e' : Ended = treat wake sets slot touched e in
      let q : List Sleeper = e.world.queue in
      let a : Looked e.looks (count_of (mine slot) q) e'.looks = treat_looked slot touched e in
      let b : Looked e'.looks (count_of (from_slot (slot + 1)) e'.world.queue) (treat_from wake sets (slot + 1) touches e').looks = treat_from_looked (slot + 1) touches e' in
      let k : sum_to (count_of (from_slot (slot + 1)) e'.world.queue) ≤ sum_to (count_of (from_slot (slot + 1)) q) = sum_to_mono _ _ (fewer (from_slot (slot + 1)) slot touched e) in
      let s : sum_to (count_of (mine slot) q) + sum_to (count_of (from_slot (slot + 1)) q) ≤ sum_to (count_of (from_slot slot) q) =
      rw (shares slot q) at (sum_to_add (count_of (mine slot) q) (count_of (from_slot (slot + 1)) q)) in
      record { more = omega arith; most = omega arith }

-- n sleepers are looked at 1 + 2 + .. + n times at most: seven 28 times, eight 36 times
looks_most : (test : Sleeper → Bool) (q : List Sleeper) (n : ℕ) → length q ≤ n → sum_to (count_of test q) ≤ sum_to n
looks_most test q n h = sum_to_mono (count_of test q) n (omega (arith, count_length test q))

pub looks_28 : (test : Sleeper → Bool) (q : List Sleeper) → length q < processes → sum_to (count_of test q) ≤ 28
looks_28 test q h = rw sum_to_7 at (looks_most test q 7 (omega arith))

looks_36 : (test : Sleeper → Bool) (q : List Sleeper) → length q ≤ processes → sum_to (count_of test q) ≤ 36
looks_36 test q h = rw sum_to_8 at (looks_most test q 8 h)

pub plain_looks : {sets : List Set} (slot n : ℕ) (w : World) (l : ℕ) → Calm sets w → (plain n slot w l).looks ≤ l + 36
plain_looks slot n w l c = omega (arith, (plain_looked slot n 0 w l).most, looks_36 (mine slot) w.queue (omega (arith, c.room)))

pub quick_looks : {sets : List Set} (slot n m : ℕ) (w : World) (l : ℕ) → Calm sets w → (quick n slot m w l).looks ≤ l + 36
quick_looks slot n m w l c = omega (arith, (quick_looked slot n m w l).most, looks_36 (mine slot) w.queue (omega (arith, c.room)))
