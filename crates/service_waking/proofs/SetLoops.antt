-- A set is treated by an engine, and the live sets from slot 0 up.
use Prim.Native.Nat.{ℕ, ◌+◌, ◌*◌, ◌≤◌, ◌<◌}
use native.Mathlib.Omega.{arith}
use mathlib.Core.Path.{◌≡◌, refl, sym, ◌∙◌, ap, subst}
use mathlib.Core.Bool.{Bool, true, false, cond, ◌&&◌}
use mathlib.Core.List.{List, [], ◌∷◌}
use lib.Bits.{bit_or, and_zero_r}
use lib.ListN.{length, get_or, drop, drop_of_length-le}
use borrow.Author.Tests.{lt-ltb, le-ltb}
use Rattle.model.specs.declared.Engine.{Engine}
use Rattle.model.specs.declared.Engine.TheVariants.{Plain, Quick}
use Rattle.model.specs.declared.Set.{Set}
use Rattle.model.specs.Limits.{slots}
use Rattle.model.specs.State.{Sleeper, no_set}
use Rattle.model.specs.Operation.{has_bit}
use Rattle.model.specs.Marks.{bit_of, named, mine, concerned, mask_of, mark_touched}
use Rattle.model.specs.Waking.{World, Ended, waker}
use Rattle.model.specs.Events.{treat, treat_from}
use Rattle.model.specs.Invariant.{Calm}
use Rattle.model.proofs.Lists.{drop_at}
use Rattle.model.proofs.Calm.{wake_calm, plain_looks, quick_looks}
use Rattle.host.specs.Holding.{sets_in, queue_in}
use Rattle.service_waking.specs.Lent.{Lent, Left, world_in, lent_with, left_with, Ready, plainly, quickly, treated, treated_from}
use Rattle.service_waking.proofs.LentLaws.{sets_with, world_back, with_ready}
use Rattle.service_waking.proofs.WakingLoops.{left_over}
use Rattle.service_waking.proofs.QuickLoops.{quick_nobody}

-- ---- nothing is touched

touches_nobody : (slot : ℕ) (q : List Sleeper) → mark_touched slot 0 0 q ≡ 0
unfolding mask_of
touches_nobody slot [] = refl
touches_nobody slot (s ∷ q) = go (mine slot s) (touches_nobody slot q)
  where
    go : (b : Bool) → mark_touched slot 0 0 q ≡ 0 → mask_of (concerned slot 0) (cond (b && has_bit (named s) 0) (bit_or 0 (bit_of s.process)) 0) q ≡ 0
    go true e = rw (and_zero_r (named s)) e
    go false e = e

-- ---- an engine's rule

pub wakes_plain : {engine : Engine} (slot touched : ℕ) (x : Lent) (l : ℕ) {y : Left} → engine ≡ Plain → y ≡ plainly slot x l → y ≡ treated engine slot touched x l
unfolding waker
wakes_plain slot touched x l e q = rw e q

module _ {engine : Engine} (slot touched : ℕ) (x : Lent) (l : ℕ) (e : engine ≡ Quick) where
  pub wakes_quick : (marks : ℕ) → marks ≡ mark_touched slot touched 0 (queue_in x.host.row) → {y : Left} → y ≡ quickly slot marks x l → y ≡ treated engine slot touched x l
  unfolding waker world_in
  wakes_quick marks em q = rw e (q ∙ ap (λ (m : ℕ). quickly slot m x l) em)

  pub wakes_nobody : Ready x → touched ≡ 0 → record { lent = x; looks = l } ≡ treated engine slot touched x l
  wakes_nobody r z =
      wakes_quick 0 (sym (ap (λ (k : ℕ). mark_touched slot k 0 (queue_in x.host.row)) z ∙ touches_nobody slot (queue_in x.host.row))) (quick_nobody slot x l r)

pub wake_looks : {sets : List Set} (engine : Engine) (slot touched : ℕ) (w : World) (l : ℕ) → Calm sets w → (waker engine slot touched w l).looks ≤ l + 36
unfolding waker
wake_looks Plain slot touched w l c = plain_looks slot (length w.queue) w l c
wake_looks Quick slot touched w l c = quick_looks slot (length w.queue) _ w l c

-- ---- the live sets in order

-- before the slot k is treated: what is lent is ready, its sets are those of the start, and what is left to treat gives what
-- all gave at the start
pub record Walk (engine : Engine) (touched : List ℕ) (x₀ : Lent) (k : ℕ) (x : Lent) (l : ℕ) : Type 0 where
  pub within : k ≤ slots
  pub ready : Ready x
  pub few : l ≤ 36 * k
  pub sets : sets_in x.host.row ≡ sets_in x₀.host.row
  pub rest : treated_from engine k (drop k touched) x l ≡ treated_from engine 0 touched x₀ 0

pub walk_first : (engine : Engine) (touched : List ℕ) (x : Lent) → Ready x → Walk engine touched x 0 x 0
walk_first engine touched x r = record { within = omega arith; ready = r; few = omega arith; sets = refl; rest = refl }

treats_live : (engine : Engine) (sets : List Set) (k m : ℕ) (w : World) (l : ℕ) → 0 < (get_or sets k no_set).count → treat (waker engine) sets k m (record { world = w; looks = l }) ≡ waker engine k m w l
unfolding treat
treats_live engine sets k m w l h = rw (lt-ltb _ _ h)

module _ (engine : Engine) (touched : List ℕ) (x₀ : Lent) (k : ℕ) (x : Lent) (l : ℕ) (w : Walk engine touched x₀ k x l) (size : length touched ≡ slots) where
  module _ (h : k < slots) where
    abbrev the_sets : List Set
    the_sets = sets_in x.host.row

    -- one slot more
    next : treated_from engine k (drop k touched) x l
        ≡ left_with x (treat_from (waker engine) (sets_in x.host.row) (k + 1) (drop (k + 1) touched) (treat (waker engine) (sets_in x.host.row) k (get_or touched k 0) (record { world = world_in x; looks = l })))
    unfolding treat_from
    next = rw (drop_at touched k 0 (omega (arith, h, size)))

    pub walk_free : (get_or (sets_in x.host.row) k no_set).count ≤ 0 → Walk engine touched x₀ (k + 1) x l
    unfolding treat
    walk_free z = record { within = omega (arith, h); ready = w.ready; few = omega (arith, w.few); sets = w.sets; rest = sym (next ∙ rw (le-ltb _ _ z)) ∙ w.rest }

    pub walk_live : {x' : Lent} {l' : ℕ} → 0 < (get_or (sets_in x.host.row) k no_set).count → record { lent = x'; looks = l' } ≡ treated engine k (get_or touched k 0) x l → Walk engine touched x₀ (k + 1) x' l'
    walk_live {x'} {l'} some q =
        subst (λ (y : Lent). Walk engine touched x₀ (k + 1) y l') (ap (λ (y : Left). y.lent) (sym q))
        (subst (λ (n : ℕ). Walk engine touched x₀ (k + 1) (lent_with x e.world) n) (ap (λ (y : Left). y.looks) (sym q))
        (record {
          within = omega (arith, h);
          ready = with_ready x e.world w.ready.counts calm;
          few = omega (arith, w.few, wake_looks engine k (get_or touched k 0) (world_in x) l w.ready.calm);
          sets = sets_with x e.world ∙ w.sets;
          rest = rw (world_back x (sets_in x.host.row) e.world calm, sets_with x e.world) (left_over x e.world _ ∙ sym (next ∙ treats) ∙ w.rest);
        }))
      where
        e : Ended
        e = waker engine k (get_or touched k 0) (world_in x) l

        calm : Calm (sets_in x.host.row) e.world
        calm = wake_calm engine k (get_or touched k 0) (world_in x) l w.ready.calm

        treats : left_with x (treat_from (waker engine) (sets_in x.host.row) (k + 1) (drop (k + 1) touched) (treat (waker engine) (sets_in x.host.row) k (get_or touched k 0) (record { world = world_in x; looks = l })))
            ≡ left_with x (treat_from (waker engine) (sets_in x.host.row) (k + 1) (drop (k + 1) touched) e)
        treats = ap (λ (y : Ended). left_with x (treat_from (waker engine) (sets_in x.host.row) (k + 1) (drop (k + 1) touched) y)) (treats_live engine (sets_in x.host.row) k (get_or touched k 0) (world_in x) l some)

  pub walk_done : slots ≤ k → record { lent = x; looks = l } ≡ treated_from engine 0 touched x₀ 0
  unfolding treat_from
  walk_done h =
      let all : length touched ≤ k = omega (arith, h, size) in
      let over : drop k touched ≡ [] = drop_of_length-le touched all in
      ap (λ (y : Lent). record { lent = y; looks = l }) w.ready.holds ∙ (rw over at w.rest)
