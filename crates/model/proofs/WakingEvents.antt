-- The events that wake by a rule: operate, set value, set all and exit give the same in both engines, and keep the invariant.
use Prim.Native.Nat.{ℕ, zero, suc, ◌+◌, ◌-◌, ◌^◌, ◌≤◌, ◌<◌}
use native.Mathlib.Omega.{arith}
use native.Mathlib.Decide.{dec_lt}
use mathlib.Core.Path.{◌≡◌, refl, ap}
use mathlib.Core.Logic.{◌≢◌, ◌⊎◌, inl, inr}
use mathlib.Core.Bool.{Bool, true, false, cond}
use mathlib.Core.List.{List, [], ◌∷◌, ◌++◌}
use lib.ListN.{length, get_or}
use lib.IntN.{ℤ, nat_abs}
use borrow.Author.Tests.{ltb-false, eqb-false, not-true}
use Rattle.model.specs.declared.Set.{Set}
use Rattle.model.specs.declared.Operation.{Operation}
use Rattle.model.specs.declared.Outcome.{Outcome}
use Rattle.model.specs.declared.Outcome.TheVariants.{Done, Sleep, Again, Range}
use Rattle.model.specs.declared.Copies.{Copies}
use Rattle.model.specs.declared.Judged.{Judged}
use Rattle.model.specs.declared.Engine.TheVariants.{Plain, Quick}
use Rattle.model.specs.Limits.{slots, semaphores, processes}
use Rattle.model.specs.State.{Table, Sleeper, State, Wait}
use Rattle.model.specs.Operation.{operations_of, has_bit}
use Rattle.model.specs.Judge.{code_of, decider_of, finishes, Position}
use Rattle.model.specs.Look.{look, applied, values_of}
use Rattle.model.specs.Marks.{mine, named, differing, every_number}
use Rattle.model.specs.Waking.{World, Ended, could_finish, waker}
use Rattle.model.specs.Clock.{at_once}
use Rattle.model.specs.Values.{values_in, held}
use Rattle.model.specs.Checks.{live, slot_of, check_operate, check_set_value, check_set_all, check_process}
use Rattle.model.specs.Events.{Result, answer_at, refused_at, woken_as, world, would_sleep, operated, call, do_operate, assigned, do_set_value, assigned_all, do_set_all, exited, keep, treat, treat_from, touched_from, do_exit, not_of}
use Rattle.model.specs.Runs.{All, none, also, InTime}
use Rattle.model.proofs.Lists.{all_map, all_zip, all_zip3, all_append}
use Rattle.model.specs.Invariant.{Good, Clean, Fits, Other, Invariant, count_at}
use Rattle.model.proofs.MarkLaws.{untouched, every_bit}
use Rattle.model.proofs.JudgeLaws.{Fine}
use Rattle.model.proofs.LookLaws.{count_fits, numbers_fit, look_fine, applied_good, applied_undo, applied_value, still_stuck, unconcerned_stuck}
use Rattle.model.proofs.QueueLaws.{few, fewer_awake, distinct_snoc, keep_test}
use Rattle.model.proofs.TableLaws.{assigned_good, assigned_stuck, unnamed_other, assigned_all_good, assigned_all_stuck, exited_good, exited_stuck}
use Rattle.model.proofs.CleanLaws.{looked_clean, assigned_clean, assigned_all_clean, exited_clean, wake_clean}
use Rattle.model.proofs.CheckLaws.{Awake, awake_few, alive, at_first, Operable, operate_passes, Assignable, set_value_passes, AllAssignable, set_all_passes, process_passes}
use Rattle.model.proofs.ClockLaws.{begun_now}
use Rattle.model.proofs.Rules.{tame}
use Rattle.model.specs.Invariant.{Calm}
use Rattle.model.proofs.Calm.{wake_calm, treat_from_keeps, Asleep, asleep_kept, treat_from_looked, looks_28, from_slot}
use Rattle.model.proofs.Agree.{slot_mine, slot_other, Rests, Aside, WakersAgree, OthersStuck, wake_aside, wakers_agree}
use Rattle.model.proofs.EventLaws.{Agrees, quiet, checked_agrees, woken_agrees, keep_kept}

-- ---- one set is treated

abbrev Anyone : Sleeper → Type 0
Anyone q = Unit {0}

-- a sleeper is of the set, or of another
together : (slot : ℕ) (Meant : Sleeper → Type 0) (t : Table) (q : Sleeper) → Rests slot t q → Aside slot Meant t q → (q.slot ≢ slot → Meant q) → could_finish t q ≡ false
together slot Meant t q r a m = go (mine slot q) refl
  where
    go : (b : Bool) → mine slot q ≡ b → could_finish t q ≡ false
    go true e = r e
    go false e = a e (m (slot_other slot q e))

-- the table has become t, by a caller's event: the sleepers of other sets are still stuck, and so are those of the set who name no touched semaphore
treated : (s : State) (p slot touched : ℕ) (t : Table) (i : Invariant s) → Awake s p → Good t → Clean s.sets t → All (Aside slot Anyone t) s.queue → OthersStuck i.counts slot touched (world t s.queue)
    → Agrees (woken_as s (waker Quick slot touched (world t s.queue) 0)) (woken_as s (waker Plain slot touched (world t s.queue) 0))
treated s p slot touched t i a g clean aside ready =
    woken_agrees s (waker Quick slot touched w 0) (waker Plain slot touched w 0) i ag.world ag.looks
    (omega (arith, ((tame Plain).looked slot touched w 0).most, looks_28 (mine slot) s.queue (awake_few a i)))
    (wake_calm Quick slot touched w 0 calm) (wake_clean i.counts Quick slot touched w 0 calm clean)
    (all_zip (λ q r a. together slot Anyone _ q r a (λ e. tt)) ag.rests (wake_aside i.counts slot Quick Anyone touched w 0 calm aside))
    ((tame Quick).keeps slot touched w 0 (Asleep (InTime s)) (asleep_kept (InTime s) slot) i.in_time)
  where
    w : World
    w = world t s.queue

    calm : Calm s.sets w
    calm = record { good = g; fits = i.fits; distinct = i.distinct; room = omega (arith, few s i) }

    ag : WakersAgree i.counts slot (waker Quick slot touched w 0) (waker Plain slot touched w 0)
    ag = wakers_agree i.counts slot touched w 0 0 (omega arith) calm ready

-- ---- operate

-- a call that would sleep, and begins now
would_sleep_agrees : (s : State) (c : Sleeper) (at : Position) → Invariant s → Fits s.sets c → All (Other c) s.queue → could_finish s.table c ≡ false → c.start ≡ s.time
    → Agrees (would_sleep s c at) (would_sleep s c at)
unfolding would_sleep
would_sleep_agrees s c at i f others stuck begun = go (at_once c.wait) refl
  where
    asleep : Result
    asleep = record { answer = answer_at (code_of Sleep) at; state = record { sets = s.sets; callers = s.callers; table = s.table; queue = s.queue ++ c ∷ []; time = s.time }; looks = 0; wakings = [] }

    go : (b : Bool) → at_once c.wait ≡ b → Agrees (cond b (refused_at s 11 at) asleep) (cond b (refused_at s 11 at) asleep)
    go true e = quiet (refused_at s 11 at) refl i
    go false e =
        quiet asleep refl
        (record {
          sets = i.sets;
          counts = i.counts;
          vacant = i.vacant;
          good = i.good;
          clean = i.clean;
          fits = all_append s.queue (c ∷ []) i.fits (also f none);
          distinct = distinct_snoc s.queue c i.distinct others;
          stuck = all_append s.queue (c ∷ []) i.stuck (also stuck none);
          time = i.time;
          in_time = all_append s.queue (c ∷ []) i.in_time (also (rw begun (begun_now s.time c.wait e)) none);
        })

operated_agrees : (s : State) (c : Sleeper) (x : Outcome) (at : Position) (copies : Copies) → Invariant s → Awake s c.process → Fits s.sets c → All (Other c) s.queue → Fine copies
    → Clean s.sets (applied s.table c copies) → (look s.table c).outcome ≡ x → c.start ≡ s.time → Agrees (operated (waker Quick) s c x at copies) (operated (waker Plain) s c x at copies)
unfolding operated finishes
operated_agrees s c Done at copies i a f others k clean e begun =
    treated s c.process c.slot (differing 0 0 (values_of s.table c.slot) (values_of (applied s.table c copies) c.slot)) t i a g clean
    (all_zip3 aside i.fits others i.stuck) (all_zip3 ready i.fits others i.stuck)
  where
    t : Table
    t = applied s.table c copies

    g : Good t
    g = applied_good s.table c i.good f copies k

    aside : (q : Sleeper) → Fits s.sets q → Other c q → could_finish s.table q ≡ false → Aside c.slot Anyone t q
    aside q fq o st e m =
        still_stuck i.counts s.table t q i.good g fq
        (all_map (applied_value s.table c q i.good f fq copies k (slot_other c.slot q e)) (numbers_fit i.counts q fq))
        (all_map (applied_undo s.table c q i.good f fq copies k o) (numbers_fit i.counts q fq)) st

    ready : (q : Sleeper) → Fits s.sets q → Other c q → could_finish s.table q ≡ false → mine c.slot q ≡ true
        → has_bit (named q) (differing 0 0 (values_of s.table c.slot) (values_of t c.slot)) ≡ false → could_finish t q ≡ false
    ready q fq o st e un =
        unconcerned_stuck i.counts s.table t q i.good g fq (rw (slot_mine c.slot q e) un) (applied_undo s.table c q i.good f fq copies k o) st
operated_agrees s c Sleep at copies i a f others k clean e begun = would_sleep_agrees s c at i f others (ap finishes e) begun
operated_agrees s c Again at copies i a f others k clean e begun = quiet _ refl i
operated_agrees s c Range at copies i a f others k clean e begun = quiet _ refl i

pub operate_agrees : (s : State) (p : ℕ) (i : ℤ) (wait : Wait) (bytes : List ℕ) → Invariant s → Agrees (do_operate (waker Quick) s p i wait bytes) (do_operate (waker Plain) s p i wait bytes)
unfolding do_operate
operate_agrees s p j wait bytes i = checked_agrees (check_operate s p j bytes) s _ _ i (λ e. does (operate_passes s p j wait bytes e))
  where
    c : Sleeper
    c = call s.time p j wait bytes

    judged : Judged
    judged = look s.table c

    does : Operable s p j wait bytes → Agrees (operated (waker Quick) s c judged.outcome (decider_of judged) judged.copies) (operated (waker Plain) s c judged.outcome (decider_of judged) judged.copies)
    does o =
        operated_agrees s c judged.outcome (decider_of judged) judged.copies i o.caller o.fits o.others (look_fine s.table c i.good o.fits)
        (looked_clean i.counts s.table c i.good o.fits i.clean) refl refl

-- ---- set value

pub set_value_agrees : (s : State) (p : ℕ) (i : ℤ) (n : ℕ) (v : ℤ) → Invariant s → Agrees (do_set_value (waker Quick) s p i n v) (do_set_value (waker Plain) s p i n v)
unfolding do_set_value
set_value_agrees s p j n v i = checked_agrees (check_set_value s p j n v) s _ _ i (λ e. does (set_value_passes s p j n v e))
  where
    t : Table
    t = assigned s.table (slot_of j) n (nat_abs v)

    fits : Assignable s p j n v → n < semaphores
    fits a = omega (arith, a.numbered.number, count_fits i.counts (slot_of j))

    stuck : Assignable s p j n v → (q : Sleeper) → Fits s.sets q → All (λ (o : Operation). q.slot ≡ slot_of j → o.number ≢ n) (operations_of q.array)
        → could_finish s.table q ≡ false → could_finish (assigned s.table (slot_of j) n (nat_abs v)) q ≡ false
    stuck a q f = assigned_stuck i.counts s.table q i.good f (slot_of j) n (nat_abs v) a.numbered.slot (fits a) a.value

    does : Assignable s p j n v → Agrees (woken_as s (waker Quick (slot_of j) (2 ^ n) (world t s.queue) 0)) (woken_as s (waker Plain (slot_of j) (2 ^ n) (world t s.queue) 0))
    does a =
        treated s p (slot_of j) (2 ^ n) t i a.numbered.caller (assigned_good s.table (slot_of j) n (nat_abs v) i.good a.value)
        (assigned_clean s.sets s.table (slot_of j) n (nat_abs v) a.numbered.slot a.numbered.number (fits a) i.clean)
        (all_zip (λ q f st e m. stuck a q f (all_map (λ o h z. absurd (slot_other (slot_of j) q e z)) (numbers_fit i.counts q f)) st) i.fits i.stuck)
        (all_zip (λ q f st e un. stuck a q f (all_map (λ o h z. h) (unnamed_other q n un)) st) i.fits i.stuck)

-- ---- set all

-- every sleeper of the set names one of its numbers
every_concerned : (sets : List Set) (slot : ℕ) (q : Sleeper) → Fits sets q → mine slot q ≡ true → has_bit (named q) (every_number (count_at sets slot)) ≡ false → ⊥
every_concerned sets slot q f e un =
    let numbers : All (λ (o : Operation). o.number < count_at sets slot) (operations_of q.array) = rw (slot_mine slot q e) at f.numbers in
    at_first {P = λ o. ⊥} sets q f (all_zip (λ o lt z. omega (arith, z, every_bit (count_at sets slot) o.number lt)) numbers (untouched q (every_number (count_at sets slot)) un))

pub set_all_agrees : (s : State) (p : ℕ) (i : ℤ) (bytes : List ℕ) → Invariant s → Agrees (do_set_all (waker Quick) s p i bytes) (do_set_all (waker Plain) s p i bytes)
unfolding do_set_all
set_all_agrees s p j bytes i = checked_agrees (check_set_all s p j bytes) s _ _ i (λ e. does (set_all_passes s p j bytes e))
  where
    slot : ℕ
    slot = slot_of j

    vs : List ℕ
    vs = held (values_in bytes)

    t : Table
    t = assigned_all s.table (slot_of j) (held (values_in bytes))

    does : AllAssignable s p j bytes
        → Agrees (woken_as s (waker Quick (slot_of j) (every_number (count_at s.sets (slot_of j))) (world t s.queue) 0)) (woken_as s (waker Plain (slot_of j) (every_number (count_at s.sets (slot_of j))) (world t s.queue) 0))
    does a =
        let few : length vs ≤ semaphores = omega (arith, a.count, count_fits i.counts (slot_of j)) in
        treated s p slot (every_number (count_at s.sets slot)) t i a.caller (assigned_all_good s.table slot vs i.good a.named.slot a.values)
        (assigned_all_clean s.sets s.table slot vs i.good a.named.slot a.count few i.clean)
        (all_zip (λ q f st e m. assigned_all_stuck i.counts s.table q i.good f slot a.named.slot (slot_other slot q e) vs few a.values st) i.fits i.stuck)
        (all_map (λ q f e un. absurd (every_concerned s.sets slot q f e un)) i.fits)

-- ---- exit

module _ (s : State) (i : Invariant s) where
  -- a sleeper of a set that was treated, or one who names none of its set's touched semaphores
  abbrev Meant : ℕ → List ℕ → Sleeper → Type 0
  Meant slot touches q = (q.slot < slot) ⊎ (has_bit (named q) (get_or touches (q.slot - slot) 0) ≡ false)

  -- the slots below this one are treated
  record Upto (slot : ℕ) (touches : List ℕ) (a b : Ended) : Type 0 where
    world : a.world ≡ b.world
    looks : a.looks ≤ b.looks
    calm : Calm s.sets a.world
    clean : Clean s.sets a.world.table
    done : All (λ (q : Sleeper). Meant slot touches q → could_finish a.world.table q ≡ false) a.world.queue

  -- one slot more, for a sleeper of another
  back : (slot touched : ℕ) (touches : List ℕ) (q : Sleeper) → q.slot ≢ slot → Meant (slot + 1) touches q → Meant slot (touched ∷ touches) q
  back slot touched touches q ne (inl lt) = inl (omega (arith, lt, ne))
  back slot touched touches q ne (inr un) = go (dec_lt q.slot slot)
    where
      go : Dec (q.slot < slot) → Meant slot (touched ∷ touches) q
      go (yes lt) = inl lt
      go (no ge) = let z : q.slot - slot ≡ suc (q.slot - (slot + 1)) = omega (arith, ne) in inr (rw z un)

  treat_upto : (slot touched : ℕ) (touches : List ℕ) (a b : Ended) → Upto slot (touched ∷ touches) a b
      → Upto (slot + 1) touches (treat (waker Quick) s.sets slot touched a) (treat (waker Plain) s.sets slot touched b)
  unfolding treat
  treat_upto slot touched touches a b u = go (live s.sets slot) refl
    where
      ready : OthersStuck i.counts slot touched a.world
      ready = all_map (λ q d e un. d (let h : q.slot ≡ slot = slot_mine slot q e in let z : q.slot - slot ≡ 0 = omega arith in inr (rw z un))) u.done

      ag : WakersAgree i.counts slot (waker Quick slot touched a.world a.looks) (waker Plain slot touched a.world b.looks)
      ag = wakers_agree i.counts slot touched a.world a.looks b.looks u.looks u.calm ready

      moved : WakersAgree i.counts slot (waker Quick slot touched a.world a.looks) (waker Plain slot touched b.world b.looks)
      moved =
          let e : waker Plain slot touched a.world b.looks ≡ waker Plain slot touched b.world b.looks = ap (λ (w : World). waker Plain slot touched w b.looks) u.world in
          rw e at ag

      aside : All (Aside slot (Meant slot (touched ∷ touches)) (waker Quick slot touched a.world a.looks).world.table) (waker Quick slot touched a.world a.looks).world.queue
      aside = wake_aside i.counts slot Quick (Meant slot (touched ∷ touches)) touched a.world a.looks u.calm (all_map (λ q d e. d) u.done)

      dead : live s.sets slot ≡ false → (q : Sleeper) → Fits s.sets q → q.slot ≢ slot
      dead e q f z = let x : 0 < count_at s.sets slot = rw z at (alive s.sets q f) in omega (arith, x, ltb-false 0 (count_at s.sets slot) e)

      go : (x : Bool) → live s.sets slot ≡ x
          → Upto (slot + 1) touches (cond x (waker Quick slot touched a.world a.looks) a) (cond x (waker Plain slot touched b.world b.looks) b)
      go true e =
          record {
            world = moved.world;
            looks = moved.looks;
            calm = wake_calm Quick slot touched a.world a.looks u.calm;
            clean = wake_clean i.counts Quick slot touched a.world a.looks u.calm u.clean;
            done = all_zip (λ q r x m. together slot (Meant slot (touched ∷ touches)) _ q r x (λ ne. back slot touched touches q ne m)) ag.rests aside;
          }
      go false e =
          record {
            world = u.world;
            looks = u.looks;
            calm = u.calm;
            clean = u.clean;
            done = all_zip (λ q f d m. d (back slot touched touches q (dead e q f) m)) u.calm.fits u.done;
          }

  treat_from_upto : (slot : ℕ) (touches : List ℕ) (a b : Ended) → Upto slot touches a b
      → Upto (slot + length touches) [] (treat_from (waker Quick) s.sets slot touches a) (treat_from (waker Plain) s.sets slot touches b)
  unfolding treat_from
  treat_from_upto slot [] a b u = let z : slot + 0 ≡ slot = omega arith in rw z u
  treat_from_upto slot (touched ∷ touches) a b u =
      let z : slot + suc (length touches) ≡ slot + 1 + length touches = omega arith in
      rw z (treat_from_upto (slot + 1) touches _ _ (treat_upto slot touched touches a b u))

length_touched : (n slot : ℕ) (t t' : Table) → length (touched_from n slot t t') ≡ n
unfolding touched_from
length_touched zero slot t t' = refl
length_touched (suc n) slot t t' = ap suc (length_touched n (slot + 1) t t')

pub touched_at : (n slot j : ℕ) (t t' : Table) → j < n → get_or (touched_from n slot t t') j 0 ≡ differing 0 0 (values_of t (slot + j)) (values_of t' (slot + j))
unfolding touched_from
touched_at zero slot j t t' h = absurd (omega arith)
touched_at (suc n) slot zero t t' h = let z : slot + 0 ≡ slot = omega arith in rw z
touched_at (suc n) slot (suc j) t t' h = let z : slot + suc j ≡ slot + 1 + j = omega arith in rw z (touched_at n (slot + 1) j t t' (omega arith))

pub exit_agrees : (s : State) (p : ℕ) → Invariant s → Agrees (do_exit (waker Quick) s p) (do_exit (waker Plain) s p)
unfolding do_exit
exit_agrees s p i = checked_agrees (check_process p) s _ _ i (λ e. does (process_passes p e))
  where
    t : Table
    t = exited s.table p

    left : State
    left = record { sets = s.sets; callers = s.callers; table = s.table; queue = keep (not_of p) s.queue; time = s.time }

    k : Invariant left
    k = keep_kept s (not_of p) i

    -- the process itself no longer sleeps
    gone : (1 ≤ p) × (p ≤ processes) → length left.queue < processes
    gone r = fewer_awake p left.queue r.0 r.1 (all_map (λ q o. eqb-false q.process p (not-true _ o)) (keep_test (not_of p) s.queue)) k.fits k.distinct

    touches : List ℕ
    touches = touched_from slots 0 s.table t

    start : Ended
    start = record { world = world t left.queue; looks = 0 }

    first_done : (1 ≤ p) × (p ≤ processes) → (q : Sleeper) → Fits s.sets q → could_finish s.table q ≡ false → not_of p q ≡ true → Meant s i 0 touches q → could_finish t q ≡ false
    first_done r q f st o (inl lt) = absurd (omega arith)
    first_done r q f st o (inr un) =
        let z : q.slot - 0 ≡ q.slot = omega arith in
        let y : 0 + q.slot ≡ q.slot = omega arith in
        let at : get_or touches q.slot 0 ≡ differing 0 0 (values_of s.table q.slot) (values_of t q.slot) = rw y at (touched_at slots 0 q.slot s.table t f.slot) in
        exited_stuck i.counts s.table q i.good f p r.0 r.1 (eqb-false q.process p (not-true _ o)) (rw (z, at) at un) st

    upto : (1 ≤ p) × (p ≤ processes) → Upto s i 0 touches start start
    upto r =
        record {
          world = refl;
          looks = omega arith;
          calm = record { good = exited_good s.table p i.good r.0 r.1; fits = k.fits; distinct = k.distinct; room = omega (arith, few left k) };
          clean = exited_clean s.sets s.table p i.good r.0 r.1 i.clean;
          done = all_zip3 (first_done r) k.fits k.stuck (keep_test (not_of p) s.queue);
        }

    does : (1 ≤ p) × (p ≤ processes) → Agrees (woken_as s (treat_from (waker Quick) s.sets 0 touches start)) (woken_as s (treat_from (waker Plain) s.sets 0 touches start))
    does r =
        let u : Upto s i (0 + length touches) [] (treat_from (waker Quick) s.sets 0 touches start) (treat_from (waker Plain) s.sets 0 touches start) =
        treat_from_upto s i 0 touches start start (upto r) in
        woken_agrees s _ _ i u.world u.looks
        (omega (arith, (treat_from_looked (waker Plain) (tame Plain) s.sets 0 touches start).most, looks_28 (from_slot 0) left.queue (gone r)))
        u.calm u.clean (all_zip (λ q f d. d (inl (omega (arith, f.slot, length_touched slots 0 s.table t)))) u.calm.fits u.done)
        (treat_from_keeps Quick s.sets (Asleep (InTime s)) (asleep_kept (InTime s)) 0 touches start k.in_time)
