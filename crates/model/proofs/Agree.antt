-- The quick rule finishes whom the plain rule finishes, in the same order, with no more looks; and then nobody of the set could finish.
use Prim.Native.Nat.{ℕ, zero, suc, ◌+◌, ◌≤◌, ◌<◌}
use native.Mathlib.Nat.{not-suc-le-zero}
use native.Mathlib.Omega.{arith}
use mathlib.Core.Path.{◌≡◌, refl, sym, ◌∙◌}
use mathlib.Core.Logic.{◌≢◌}
use mathlib.Core.Bool.{Bool, true, false, ◌&&◌}
use mathlib.Core.List.{List, [], ◌∷◌}
use lib.ListN.{length, get_or}
use borrow.Author.Tests.{eqb-true, eqb-false}
use Rattle.model.specs.declared.Set.{Set}
use Rattle.model.specs.declared.Operation.{Operation}
use Rattle.model.specs.declared.Engine.{Engine}
use Rattle.model.specs.declared.Engine.TheVariants.{Plain, Quick}
use Rattle.model.specs.Limits.{semaphores}
use Rattle.model.specs.State.{Table, Sleeper, no_sleeper}
use Rattle.model.specs.Operation.{has_bit}
use Rattle.model.specs.Look.{look, values_of}
use Rattle.model.specs.Marks.{mine, marked, unmark, named, differing, concerned, mark_touched}
use Rattle.model.specs.Waking.{World, Ended, Round, nobody, finished, could_finish, without, finish, plain_round, quick_round, after_round, plain, remark, quick, waker}
use Rattle.model.specs.Runs.{All, none, also}
use Rattle.model.proofs.Lists.{first, rest, all_map, all_zip, all_zip3, all_zip4, all_at, all_without}
use Rattle.model.specs.Invariant.{Good, Fits, Other, Distinct}
use Rattle.model.proofs.MarkLaws.{unmark_other, Unmarked, mask_all}
use Rattle.model.proofs.JudgeLaws.{Fine}
use Rattle.model.proofs.LookLaws.{SameUndo, numbers_fit, look_fine, after_undo, after_value, still_stuck, unconcerned_stuck}
use Rattle.model.proofs.QueueLaws.{others_first, distinct_rest, others_without}
use Rattle.model.proofs.WakingLaws.{finish_length}
use Rattle.model.proofs.Rules.{tame}
use Rattle.model.specs.Invariant.{Calm}
use Rattle.model.proofs.Calm.{finish_calm}

pub slot_mine : (slot : ℕ) (s : Sleeper) → mine slot s ≡ true → s.slot ≡ slot
unfolding mine
slot_mine slot s e = eqb-true s.slot slot e

pub slot_other : (slot : ℕ) (s : Sleeper) → mine slot s ≡ false → s.slot ≢ slot
unfolding mine
slot_other slot s e = eqb-false s.slot slot e

-- a sleeper of the set could not finish
abbrev pub Rests : ℕ → Table → Sleeper → Type 0
Rests slot t s = mine slot s ≡ true → could_finish t s ≡ false

-- .. unless it is marked
abbrev pub Watched : ℕ → Table → ℕ → Sleeper → Type 0
Watched slot t m s = mine slot s ≡ true → marked m s ≡ false → could_finish t s ≡ false

-- a sleeper of another set could not finish, if it is one of those meant
abbrev pub Aside : ℕ → (Sleeper → Type 0) → Table → Sleeper → Type 0
Aside slot Meant t s = mine slot s ≡ false → Meant s → could_finish t s ≡ false

-- a sleeper of the set whom a touched semaphore does not concern names none
pub unnamed : (slot touched : ℕ) (s : Sleeper) → mine slot s ≡ true → concerned slot touched s ≡ false → has_bit (named s) touched ≡ false
unnamed slot touched s e f = go (mine slot s) e f
  where
    go : (b : Bool) → b ≡ true → b && has_bit (named s) touched ≡ false → has_bit (named s) touched ≡ false
    go true e f = f
    go false e f = let z : ◌≡◌ {A = ℕ} 0 1 = cc in absurd (omega arith)

module _ {sets : List Set} (counts : All (λ (k : Set). k.count ≤ semaphores) sets) (slot : ℕ) where
  -- ---- one sleeper is finished

  module _ (w : World) (i : ℕ) (c : Calm sets w) (h : i < length w.queue) where
    abbrev p : Sleeper
    p = get_or w.queue i no_sleeper

    fp : Fits sets p
    fp = all_at w.queue i no_sleeper c.fits h

    fine : Fine (look w.table p).copies
    fine = look_fine w.table p c.good fp

    good : Good (finish w i).table
    good = (finish_calm w i c h).good

    undo : (s : Sleeper) → Fits sets s → Other p s → (o : Operation) → o.number < semaphores → SameUndo w.table (finish w i).table s o
    unfolding finish
    undo s f = after_undo w.table p s c.good fp f (look w.table p).outcome (look w.table p).copies fine

    -- whoever is not marked then could not finish
    finish_watched : (m : ℕ) → All (Watched slot w.table m) (without w.queue i)
        → All (Watched slot (finish w i).table (remark slot w (finish w i) m)) (finish w i).queue
    unfolding finish
    finish_watched m wt =
        all_zip4 step (all_without w.queue i c.fits) (others_without w.queue i h c.distinct) wt (mask_all (concerned slot touched) m (without w.queue i))
      where
        touched : ℕ
        touched = differing 0 0 (values_of w.table slot) (values_of (finish w i).table slot)

        step : (s : Sleeper) → Fits sets s → Other p s → Watched slot w.table m s
            → (marked (remark slot w (finish w i) m) s ≡ false → Unmarked (concerned slot touched) m s)
            → Watched slot (finish w i).table (remark slot w (finish w i) m) s
        step s f o x u e un =
            unconcerned_stuck counts w.table (finish w i).table s c.good good f
            (rw (slot_mine slot s e) (unnamed slot touched s e (u un).fails))
            (undo s f o) (x e (u un).before)

    -- the sleepers of other sets are left alone
    finish_aside : (Meant : Sleeper → Type 0) → mine slot p ≡ true → All (Aside slot Meant w.table) w.queue → All (Aside slot Meant (finish w i).table) (finish w i).queue
    unfolding finish
    finish_aside Meant mp a =
        all_zip3 step (all_without w.queue i c.fits) (others_without w.queue i h c.distinct) (all_without w.queue i a)
      where
        step : (s : Sleeper) → Fits sets s → Other p s → Aside slot Meant w.table s → Aside slot Meant (finish w i).table s
        step s f o x e ms =
            still_stuck counts w.table (finish w i).table s c.good good f
            (all_map (after_value w.table p s c.good fp f (look w.table p).outcome (look w.table p).copies fine (λ z. slot_other slot s e (z ∙ slot_mine slot p mp))) (numbers_fit counts s f))
            (all_map (undo s f o) (numbers_fit counts s f)) (x e ms)

  -- ---- a round

  module _ (t : Table) where
    -- two rounds over q from position i on find the same
    data Same (i : ℕ) (q : List Sleeper) : Round → Round → Type 0 where
      idle : {l l' m m' : ℕ} → l ≤ l' → All (Rests slot t) q → Same i q (nobody l m) (nobody l' m')
      picks : {l l' m m' : ℕ} (j : ℕ) → j < length q → mine slot (get_or q j no_sleeper) ≡ true → could_finish t (get_or q j no_sleeper) ≡ true → l ≤ l'
          → All (Watched slot t m) (without q j) → Same i q (finished (i + j) l m) (finished (i + j) l' m')

    -- a sleeper more in front, which rests
    ahead : (i : ℕ) (s : Sleeper) (q : List Sleeper) (x y : Round) → Rests slot t s → Same (i + 1) q x y → Same i (s ∷ q) x y
    unfolding without
    ahead i s q x y h (idle le a) = idle le (also h a)
    ahead i s q x y h (picks {l = l} {l' = l'} {m = m} {m' = m'} j lt mi e le a) =
        let z : i + 1 + j ≡ i + suc j = omega arith in
        rw z (picks {m = m} {m' = m'} (suc j) (omega arith) mi e le (also (λ a b. h a) a))

    rounds_same : (q : List Sleeper) (i l l' m m₀ : ℕ) → l ≤ l' → All (Fits sets) q → Distinct q → All (Watched slot t m) q
        → Same i q (quick_round t slot q i l m) (plain_round t slot q i l' m₀)
    unfolding quick_round plain_round without
    rounds_same [] i l l' m m₀ le f d h = idle le none
    rounds_same (s ∷ q) i l l' m m₀ le f d h =
        go (mine slot s) refl (marked m s) refl (could_finish t s) refl (λ l l' m le h. rounds_same q (i + 1) l l' m m₀ le (rest f) (distinct_rest d) h)
      where
        -- its mark off, the others' marks are as they were
        off : All (Watched slot t (unmark m s)) q
        off = all_zip3 (λ x fx o wt mi un. wt mi (sym (unmark_other m s x (first f).process fx.process o) ∙ un)) (rest f) (others_first d) (rest h)

        go : (x : Bool) → mine slot s ≡ x → (y : Bool) → marked m s ≡ y → (z : Bool) → could_finish t s ≡ z
            → ((l l' m : ℕ) → l ≤ l' → All (Watched slot t m) q → Same (i + 1) q (quick_round t slot q (i + 1) l m) (plain_round t slot q (i + 1) l' m₀))
            → Same i (s ∷ q) (quick_round t slot (s ∷ q) i l m) (plain_round t slot (s ∷ q) i l' m₀)
        go false ex y ey z ez ih = rw (ex, quick_round, plain_round) (ahead i s q _ _ (λ e. cc) (ih l l' m le (rest h)))
        go true ex false ey false ez ih = rw (ex, ey, ez, quick_round, plain_round) (ahead i s q _ _ (λ e. ez) (ih l (l' + 1) m (omega arith) (rest h)))
        go true ex false ey true ez ih = let z : ◌≡◌ {A = ℕ} 0 1 = cc (first h ex ey) in absurd (omega arith)
        go true ex true ey false ez ih = rw (ex, ey, ez, quick_round, plain_round) (ahead i s q _ _ (λ e. ez) (ih (l + 1) (l' + 1) (unmark m s) (omega arith) off))
        go true ex true ey true ez ih =
            let z : i + 0 ≡ i = omega arith in
            let b : Same i (s ∷ q) (finished (i + 0) (l + 1) (unmark m s)) (finished (i + 0) (l' + 1) m₀) =
            picks {l = l + 1} {l' = l' + 1} {m = unmark m s} {m' = m₀} 0 (omega arith) ex ez (omega arith) off in
            rw (ex, ey, ez, quick_round, plain_round) (rw z at b)

  -- ---- the rules

  pub record WakersAgree (a b : Ended) : Type 0 where
    pub world : a.world ≡ b.world
    pub looks : a.looks ≤ b.looks
    pub rests : All (Rests slot a.world.table) a.world.queue

  nobody_rests : (t : Table) (q : List Sleeper) → length q ≤ 0 → All (Rests slot t) q
  nobody_rests t [] h = none
  nobody_rests t (s ∷ q) h = absurd (not-suc-le-zero h)

  pub rules_agree : (n m : ℕ) (w : World) (l l' : ℕ) → length w.queue ≤ n → l ≤ l' → Calm sets w → All (Watched slot w.table m) w.queue
      → WakersAgree (quick n slot m w l) (plain n slot w l')
  unfolding quick plain
  rules_agree zero m w l l' hn le c h = record { world = refl; looks = le; rests = nobody_rests w.table w.queue hn }
  rules_agree (suc n) m w l l' hn le c h = go _ _ (rounds_same w.table w.queue 0 l l' m 0 le c.fits c.distinct h) (rules_agree n)
    where
      go : (x y : Round) → Same w.table 0 w.queue x y
          → ((m : ℕ) (w : World) (l l' : ℕ) → length w.queue ≤ n → l ≤ l' → Calm sets w → All (Watched slot w.table m) w.queue → WakersAgree (quick n slot m w l) (plain n slot w l'))
          → WakersAgree (after_round w (λ i l' m'. quick n slot (remark slot w (finish w i) m') (finish w i) l') x) (after_round w (λ i l' m'. plain n slot (finish w i) l') y)
      go x y (idle le' a) ih = record { world = refl; looks = le'; rests = a }
      go x y (picks {l = lq} {l' = lp} {m = m'} j lt mi e le' a) ih =
          let z : 0 + j ≡ j = omega arith in
          rw z (ih (remark slot w (finish w j) m') (finish w j) lq lp (omega (arith, finish_length w j lt)) le' (finish_calm w j c lt) (finish_watched w j c lt m' a))

  -- ---- the wakers

  pub wake_aside : (engine : Engine) (Meant : Sleeper → Type 0) (touched : ℕ) (w : World) (l : ℕ) → Calm sets w → All (Aside slot Meant w.table) w.queue
      → All (Aside slot Meant (waker engine slot touched w l).world.table) (waker engine slot touched w l).world.queue
  wake_aside engine Meant touched w l c a =
      ((tame engine).keeps slot touched w l (λ (w : World). Calm sets w × All (Aside slot Meant w.table) w.queue)
      (λ w i k lt mi e. (finish_calm w i k.0 lt, finish_aside w i k.0 lt Meant mi k.1)) (c, a)).1

  -- those whom no touched semaphore concerns could not finish
  abbrev pub OthersStuck : ℕ → World → Type 0
  OthersStuck touched w = All (λ (s : Sleeper). mine slot s ≡ true → has_bit (named s) touched ≡ false → could_finish w.table s ≡ false) w.queue

  pub wakers_agree : (touched : ℕ) (w : World) (l l' : ℕ) → l ≤ l' → Calm sets w → OthersStuck touched w → WakersAgree (waker Quick slot touched w l) (waker Plain slot touched w l')
  unfolding waker
  wakers_agree touched w l l' le c r =
      rules_agree (length w.queue) (mark_touched slot touched 0 w.queue) w l l' (omega arith) le c
      (all_zip (λ s f u e un. f e (unnamed slot touched s e (u un).fails)) r (mask_all (concerned slot touched) 0 w.queue))
