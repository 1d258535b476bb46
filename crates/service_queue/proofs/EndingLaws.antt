-- The loop of `end_those`: those for whom a test holds are ended with a code, those passed stay.
use Prim.Native.Nat.{ℕ, suc, ◌+◌, ◌≤◌, ◌<◌}
use native.Mathlib.Numerals.{add-one}
use native.Mathlib.Omega.{arith}
use mathlib.Core.Path.{◌≡◌, refl, sym, ap, ap₂, subst, ◌∙◌}
use mathlib.Core.Bool.{Bool, true, false, not}
use mathlib.Core.List.{List, [], ◌∷◌, ◌++◌, append-nil}
use lib.ListN.{length, get_or, take, drop, set, length-append, drop_of_length-le}
use lib.Seq.{take_all, take-suc, drop-cons, append_snoc, take_at, drop_at, length-take-le}
use lib.IntN.{ℤ}
use Rattle.model.specs.declared.Waking.{Waking}
use Rattle.model.specs.Limits.{processes}
use Rattle.model.specs.State.{Sleeper, no_sleeper}
use Rattle.model.specs.Waking.{without, waking}
use Rattle.model.specs.Events.{keep, ended_with}
use Rattle.model.proofs.Lists.{length_without}
use Rattle.host.specs.Parts.{Row, order}
use Rattle.host.specs.Holding.{with_queue, sleeper_in, queue_in}
use Rattle.host.specs.Queue.{Queued, QueueHeld}
use Rattle.host.proofs.QueueRows.{queued_without}
use Rattle.wakings.specs.Wakings.{Place, place_of, list_of}
use Rattle.wakings.proofs.ListLaws.{noted}
use Rattle.service_queue.proofs.MovingLaws.{without_split}
use Rattle.service_queue.proofs.QueueHeldLaws.{queue_again, shows, row_with, process_is, sleeper_is}
use Rattle.std.specs.Prelude.{None}

-- ---- who is kept and who is ended, at a position of a queue

module _ (test : Sleeper → Bool) (q : List Sleeper) (i : ℕ) (h : i < length q) where
  take_without : take i (without q i) ≡ take i q
  take_without = rw (without_split q i h) (take_at (take i q) (drop (suc i) q) i (length-take-le i q (omega arith)))

  drop_without : drop i (without q i) ≡ drop (suc i) q
  drop_without = rw (without_split q i h) (drop_at (take i q) (drop (suc i) q) i (length-take-le i q (omega arith)))

  keep_passes : test (get_or q i no_sleeper) ≡ true → take i q ++ keep test (drop i q) ≡ take (i + 1) q ++ keep test (drop (i + 1) q)
  unfolding keep
  keep_passes e = rw (add-one, take-suc q i no_sleeper h, drop-cons q i no_sleeper h, keep, e) (sym (append_snoc (take i q) (get_or q i no_sleeper) _))

  keep_leaves : test (get_or q i no_sleeper) ≡ false → take i q ++ keep test (drop i q) ≡ take i (without q i) ++ keep test (drop i (without q i))
  unfolding keep
  keep_leaves e = rw (take_without, drop_without, drop-cons q i no_sleeper h, keep, e)

  ended_passes : (code : ℤ) → test (get_or q i no_sleeper) ≡ false → ended_with code test (drop i q) ≡ ended_with code test (drop (i + 1) q)
  unfolding ended_with
  ended_passes code e = rw (add-one, drop-cons q i no_sleeper h, ended_with, e)

  ended_leaves : (code : ℤ) → test (get_or q i no_sleeper) ≡ true
      → ended_with code test (drop i q) ≡ waking (get_or q i no_sleeper).process code None ∷ ended_with code test (drop i (without q i))
  unfolding ended_with
  ended_leaves code e = rw (drop_without, drop-cons q i no_sleeper h, ended_with, e)

-- ---- a row after the sleeper at a position is taken out

module _ {r : Row} (k : QueueHeld r) {i : ℕ} (h : i < length (queue_in r)) {r' : Row} (er : r' ≡ with_queue r (without (queue_in r) i)) where
  fits : Queued (without (queue_in r) i)
  fits = queued_without (queue_in r) i h k.fits

  now_without : queue_in r' ≡ without (queue_in r) i
  now_without = shows r er fits

  pub held_without : QueueHeld r'
  held_without = row_with r er fits

  pub one_less : length (queue_in r') + 1 ≡ length (queue_in r)
  one_less = ap (λ (q : List Sleeper). length q + 1) now_without ∙ length_without (queue_in r) i h

-- ---- a queue whose first i stay, and those ended so far

module _ (code : ℤ) (test : Sleeper → Bool) where
  abbrev spared : Sleeper → Bool
  spared s = not (test s)

  pub record Passed (q₀ q : List Sleeper) (ended : List Waking) (i : ℕ) : Type 0 where
    pub within : i ≤ length q
    pub room : length ended + length q ≤ processes
    pub kept : take i q ++ keep spared (drop i q) ≡ keep spared q₀
    pub told : ended ++ ended_with code test (drop i q) ≡ ended_with code test q₀

  module _ {q₀ q : List Sleeper} {ended : List Waking} {i : ℕ} (v : Passed q₀ q ended i) where
    kept_all : length q ≤ i → q ≡ keep spared q₀
    unfolding keep
    kept_all l = sym (append-nil q) ∙ (rw (drop_of_length-le q l, take_all i q l) at v.kept)

    told_all : length q ≤ i → ended ≡ ended_with code test q₀
    unfolding ended_with
    told_all l = sym (append-nil ended) ∙ (rw (drop_of_length-le q l) at v.told)

    module _ (h : i < length q) where
      passed_other : test (get_or q i no_sleeper) ≡ false → Passed q₀ q ended (i + 1)
      passed_other e =
          record {
            within = omega arith;
            room = v.room;
            kept = sym (keep_passes spared q i h (ap not e)) ∙ v.kept;
            told = ap (λ (w : List Waking). ended ++ w) (sym (ended_passes test q i h code e)) ∙ v.told;
          }

      passed_one : test (get_or q i no_sleeper) ≡ true → Passed q₀ (without q i) (ended ++ waking (get_or q i no_sleeper).process code None ∷ []) i
      passed_one e =
          let w : Waking = waking (get_or q i no_sleeper).process code None in
          record {
            within = omega (arith, length_without q i h);
            room = omega (arith, v.room, length-append ended (w ∷ []), length_without q i h);
            kept = sym (keep_leaves spared q i h (ap not e)) ∙ v.kept;
            told = append_snoc ended w _ ∙ ap (λ (x : List Waking). ended ++ x) (sym (ended_leaves test q i h code e)) ∙ v.told;
          }

  -- ---- the row and the list of wakings

  pub record Ended (r₀ r : Row) (wakings : List Place) (woken i : ℕ) : Type 0 where
    pub holding : QueueHeld r
    pub same : r ≡ with_queue r₀ (queue_in r)
    pub ended : List Waking
    pub listed : wakings ≡ list_of ended
    pub count : woken ≡ length ended
    pub passed : Passed (queue_in r₀) (queue_in r) ended i

  pub ended_none : {r : Row} {wakings : List Place} → QueueHeld r → wakings ≡ list_of [] → Ended r r wakings 0 0
  ended_none k e =
      record { holding = k; same = k.holds; ended = []; listed = e; count = refl; passed = record { within = omega arith; room = omega (arith, k.fits.few); kept = refl; told = refl } }

  module _ {r₀ r : Row} {wakings : List Place} {woken i : ℕ} (v : Ended r₀ r wakings woken i) where
    pub taken_all : length (queue_in r) ≤ i → r ≡ with_queue r₀ (keep spared (queue_in r₀))
    taken_all l = v.same ∙ ap (with_queue r₀) (kept_all v.passed l)

    pub listed_all : length (queue_in r) ≤ i → wakings ≡ list_of (ended_with code test (queue_in r₀))
    listed_all l = v.listed ∙ ap list_of (told_all v.passed l)

    pub counted_all : length (queue_in r) ≤ i → woken ≡ length (ended_with code test (queue_in r₀))
    counted_all l = v.count ∙ ap length (told_all v.passed l)

    module _ (h : i < length (queue_in r)) {p : ℕ} (ep : p ≡ get_or (r order) i 0) where
      -- the test of the sleeper that the process has in the row
      here_too : {b : Bool} → test (sleeper_in r p) ≡ b → test (get_or (queue_in r) i no_sleeper) ≡ b
      here_too e = ap test (sym (sleeper_is v.holding i h ep)) ∙ e

      pub ended_other : test (sleeper_in r p) ≡ false → Ended r₀ r wakings woken (i + 1)
      ended_other e =
          record {
            holding = v.holding;
            same = v.same;
            ended = v.ended;
            listed = v.listed;
            count = v.count;
            passed = passed_other v.passed h (here_too e);
          }

      module _ {r' : Row} (er : r' ≡ with_queue r (without (queue_in r) i)) where
        now : queue_in r' ≡ without (queue_in r) i
        now = now_without v.holding h er

        pub ended_one : {wakings' : List Place} → test (sleeper_in r p) ≡ true → wakings' ≡ set wakings woken (place_of (waking p code None)) → Ended r₀ r' wakings' (woken + 1) i
        ended_one {wakings'} e ew =
            let s : Sleeper = get_or (queue_in r) i no_sleeper in
            let w : Waking = waking s.process code None in
            let here : waking p code None ≡ w = ap (λ (n : ℕ). waking n code None) (ep ∙ process_is v.holding i h) in
            record {
              holding = held_without v.holding h er;
              same = er ∙ ap (λ (x : Row). with_queue x (without (queue_in r) i)) v.same ∙ queue_again r₀ (queue_in r) (without (queue_in r) i) ∙ ap (with_queue r₀) (sym now);
              ended = v.ended ++ w ∷ [];
              listed = ew ∙ ap₂ (λ (l : List Place) (k : ℕ). set l k (place_of (waking p code None))) v.listed v.count ∙ ap (λ (x : Waking). set (list_of v.ended) (length v.ended) (place_of x)) here ∙ noted v.ended w (omega (arith, v.passed.room));
              count = ap (λ (n : ℕ). n + 1) v.count ∙ sym (length-append v.ended (w ∷ []));
              passed = subst (λ (q : List Sleeper). Passed (queue_in r₀) q (v.ended ++ w ∷ []) i) (sym now) (passed_one v.passed h (here_too e));
            }
