-- The rounds and the rules of the waking by index, as a loop over the queue goes.
use Prim.Native.Nat.{ℕ, suc, ◌+◌, ◌≤◌, ◌<◌}
use native.Mathlib.Omega.{arith}
use mathlib.Core.Path.{◌≡◌, refl}
use mathlib.Core.Bool.{Bool, true, false}
use mathlib.Core.List.{List, [], ◌∷◌}
use lib.ListN.{length, get_or, drop, length-append, drop_of_length-le}
use Rattle.model.specs.State.{Table, Sleeper, no_sleeper}
use Rattle.model.specs.Marks.{mine, marked, unmark}
use Rattle.model.specs.Waking.{World, nobody, finished, could_finish, finish, plain_round, both, quick_round, plain, remark, quick}
use Rattle.model.proofs.Lists.{drop_at, length_without}

-- nobody who is not marked is looked at
unseen : (b : Bool) → both b false ≡ false
unseen true = refl
unseen false = refl

-- ---- a round at position i of the queue q

module _ (t : Table) (slot : ℕ) (q : List Sleeper) (i l m : ℕ) where
  pub plain_end : length q ≤ i → plain_round t slot (drop i q) i l m ≡ nobody l m
  unfolding plain_round
  plain_end h = rw (drop_of_length-le q h)

  pub quick_end : length q ≤ i → quick_round t slot (drop i q) i l m ≡ nobody l m
  unfolding quick_round
  quick_end h = rw (drop_of_length-le q h)

  module _ (h : i < length q) where
    pub plain_other : mine slot (get_or q i no_sleeper) ≡ false → plain_round t slot (drop i q) i l m ≡ plain_round t slot (drop (i + 1) q) (i + 1) l m
    unfolding plain_round
    plain_other e = rw (drop_at q i no_sleeper h, plain_round, e)

    pub plain_sleeps : mine slot (get_or q i no_sleeper) ≡ true → could_finish t (get_or q i no_sleeper) ≡ false
        → plain_round t slot (drop i q) i l m ≡ plain_round t slot (drop (i + 1) q) (i + 1) (l + 1) m
    unfolding plain_round
    plain_sleeps e f = rw (drop_at q i no_sleeper h, plain_round, e, f)

    pub plain_finishes : mine slot (get_or q i no_sleeper) ≡ true → could_finish t (get_or q i no_sleeper) ≡ true → plain_round t slot (drop i q) i l m ≡ finished i (l + 1) m
    unfolding plain_round
    plain_finishes e f = rw (drop_at q i no_sleeper h, plain_round, e, f)

    pub quick_other : mine slot (get_or q i no_sleeper) ≡ false → quick_round t slot (drop i q) i l m ≡ quick_round t slot (drop (i + 1) q) (i + 1) l m
    unfolding quick_round
    quick_other e = rw (drop_at q i no_sleeper h, quick_round, e)

    -- not marked; of the set or not
    pub quick_unmarked : marked m (get_or q i no_sleeper) ≡ false → quick_round t slot (drop i q) i l m ≡ quick_round t slot (drop (i + 1) q) (i + 1) l m
    unfolding quick_round
    quick_unmarked e = rw (drop_at q i no_sleeper h, quick_round, e, unseen)

    pub quick_sleeps : mine slot (get_or q i no_sleeper) ≡ true → marked m (get_or q i no_sleeper) ≡ true → could_finish t (get_or q i no_sleeper) ≡ false
        → quick_round t slot (drop i q) i l m ≡ quick_round t slot (drop (i + 1) q) (i + 1) (l + 1) (unmark m (get_or q i no_sleeper))
    unfolding quick_round
    quick_sleeps e f g = rw (drop_at q i no_sleeper h, quick_round, e, f, g)

    pub quick_finishes : mine slot (get_or q i no_sleeper) ≡ true → marked m (get_or q i no_sleeper) ≡ true → could_finish t (get_or q i no_sleeper) ≡ true
        → quick_round t slot (drop i q) i l m ≡ finished i (l + 1) (unmark m (get_or q i no_sleeper))
    unfolding quick_round
    quick_finishes e f g = rw (drop_at q i no_sleeper h, quick_round, e, f, g)

-- ---- a sleeper is finished

pub finish_length : (w : World) (i : ℕ) → i < length w.queue → length (finish w i).queue + 1 ≡ length w.queue
unfolding finish
finish_length w i h = length_without w.queue i h

pub finish_wakings : (w : World) (i : ℕ) → length (finish w i).wakings ≡ length w.wakings + 1
unfolding finish
finish_wakings w i = length-append w.wakings _

-- ---- the rules: a round over the whole queue

module _ (slot : ℕ) (w : World) (l : ℕ) where
  -- nobody is finished: the world stays
  pub plain_over : (l' m' : ℕ) → plain_round w.table slot w.queue 0 l 0 ≡ nobody l' m' → plain (length w.queue) slot w l ≡ record { world = w; looks = l' }
  unfolding plain plain_round
  plain_over l' m' = go w.queue refl
    where
      go : (q : List Sleeper) → w.queue ≡ q → plain_round w.table slot q 0 l 0 ≡ nobody l' m' → plain (length q) slot w l ≡ record { world = w; looks = l' }
      go [] eq e = cc
      go (s ∷ q) eq e = rw (eq, plain, e)

  pub quick_over : (m l' m' : ℕ) → quick_round w.table slot w.queue 0 l m ≡ nobody l' m' → quick (length w.queue) slot m w l ≡ record { world = w; looks = l' }
  unfolding quick quick_round
  quick_over m l' m' = go w.queue refl
    where
      go : (q : List Sleeper) → w.queue ≡ q → quick_round w.table slot q 0 l m ≡ nobody l' m' → quick (length q) slot m w l ≡ record { world = w; looks = l' }
      go [] eq e = cc
      go (s ∷ q) eq e = rw (eq, quick, e)

  -- the sleeper at i is finished: a new round begins
  module _ (i l' : ℕ) (h : i < length w.queue) where
    fewer : length w.queue ≡ suc (length (finish w i).queue)
    fewer = omega (arith, finish_length w i h)

    pub plain_again : (m' : ℕ) → plain_round w.table slot w.queue 0 l 0 ≡ finished i l' m'
        → plain (length w.queue) slot w l ≡ plain (length (finish w i).queue) slot (finish w i) l'
    unfolding plain
    plain_again m' e = rw (fewer, plain, e)

    pub quick_again : (m m' : ℕ) → quick_round w.table slot w.queue 0 l m ≡ finished i l' m'
        → quick (length w.queue) slot m w l ≡ quick (length (finish w i).queue) slot (remark slot w (finish w i) m') (finish w i) l'
    unfolding quick
    quick_again m m' e = rw (fewer, quick, e)
