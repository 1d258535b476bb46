-- What is claimed of one event in both engines, and laws that the events share.
use Prim.Native.Nat.{ℕ, zero, suc, ◌≤◌, ◌<◌}
use native.Mathlib.Nat.{le_refl}
use native.Mathlib.Omega.{arith}
use mathlib.Core.Path.{◌≡◌, refl, ap, ◌∙◌}
use mathlib.Core.Logic.{◌≢◌}
use mathlib.Core.Bool.{Bool, false}
use mathlib.Core.List.{List}
use lib.ListN.{set, length-set}
use lib.Seq.{get_or-set_other}
use Rattle.model.specs.declared.Set.{Set}
use Rattle.model.specs.Limits.{slots, semaphores}
use Rattle.model.specs.State.{Sleeper, State, no_set, cleared}
use Rattle.model.specs.Waking.{World, Ended, could_finish}
use Rattle.model.specs.Events.{Result, refused, checked, woken_as, keep}
use Rattle.model.specs.Runs.{All, Alike, InTime}
use Rattle.model.specs.Invariant.{Vacant, Clean, Fits, Invariant, Calm, count_at}
use Rattle.model.proofs.Lists.{all_zip, all_zip3, all_set}
use Rattle.model.proofs.QueueLaws.{keep_all, keep_distinct}
use Rattle.model.proofs.TableLaws.{cleared_good, cleared_stuck}
use Rattle.model.proofs.CleanLaws.{cleared_clean}

-- one event in the quick and in the plain engine: what is claimed of it, the same state, and the invariant of that state
pub record Agrees (quick plain : Result) : Type 0 where
  pub alike : Alike quick plain
  pub state : quick.state ≡ plain.state
  pub kept : Invariant quick.state

-- an event without looks, which is the same in both
pub quiet : (r : Result) → r.looks ≡ 0 → Invariant r.state → Agrees r r
quiet r e i = record { alike = record { answer = refl; wakings = refl; fewer = le_refl r.looks; bounded = omega arith }; state = refl; kept = i }

-- an event that is refused, or passes its checks
pub checked_agrees : (code : ℕ) (s : State) (x y : Result) → Invariant s → (code ≡ 0 → Agrees x y) → Agrees (checked code s x) (checked code s y)
checked_agrees zero s x y i f = f refl
checked_agrees (suc code) s x y i f = quiet (refused s (suc code)) refl i

-- an event that ends in a waking
pub woken_agrees : (s : State) (a b : Ended) → Invariant s → a.world ≡ b.world → a.looks ≤ b.looks → b.looks ≤ 28 → Calm s.sets a.world → Clean s.sets a.world.table
    → All (λ (q : Sleeper). could_finish a.world.table q ≡ false) a.world.queue → All (InTime s) a.world.queue → Agrees (woken_as s a) (woken_as s b)
woken_agrees s a b i e le most c clean stuck in_time =
    record {
      alike = record { answer = refl; wakings = ap (λ (w : World). w.wakings) e; fewer = le; bounded = most };
      state = ap (λ (w : World). record { sets = s.sets; callers = s.callers; table = w.table; queue = w.queue; time = s.time }) e;
      kept = record { sets = i.sets; counts = i.counts; vacant = i.vacant; good = c.good; clean = clean; fits = c.fits; distinct = c.distinct; stuck = stuck; time = i.time; in_time = in_time };
    }

-- ---- create and remove put a set into a slot

-- a sleeper of another slot
fits_set : (sets : List Set) (slot : ℕ) (k : Set) (q : Sleeper) → q.slot ≢ slot → Fits sets q → Fits (set sets slot k) q
fits_set sets slot k q ne f =
    let e : count_at (set sets slot k) q.slot ≡ count_at sets q.slot = ap (λ (x : Set). x.count) (get_or-set_other sets slot q.slot k no_set ne) in
    record { process = f.process; last = f.last; slot = f.slot; some = f.some; whole = f.whole; short = f.short; numbers = rw e f.numbers }

-- a slot at which nobody sleeps is cleared and given a set
pub cleared_kept : (s : State) (slot : ℕ) (k : Set) → Invariant s → slot < slots → k.count ≤ semaphores → Vacant k → All (λ (q : Sleeper). q.slot ≢ slot) s.queue
    → Invariant (record { sets = set s.sets slot k; callers = s.callers; table = cleared s.table slot; queue = s.queue; time = s.time })
cleared_kept s slot k i hs hk hv ne =
    record {
      sets = length-set s.sets slot k ∙ i.sets;
      counts = all_set s.sets slot k i.counts hk;
      vacant = all_set s.sets slot k i.vacant hv;
      good = cleared_good s.table slot i.good hs;
      clean = cleared_clean s.sets s.table slot k i.good hs i.clean;
      fits = all_zip (fits_set s.sets slot k) ne i.fits;
      distinct = i.distinct;
      stuck = all_zip3 (λ q f n e. cleared_stuck i.counts s.table q i.good f slot hs n e) i.fits ne i.stuck;
      time = i.time;
      in_time = i.in_time;
    }

-- taking sleepers out of the queue keeps the invariant
pub keep_kept : (s : State) (test : Sleeper → Bool) → Invariant s → Invariant (record { sets = s.sets; callers = s.callers; table = s.table; queue = keep test s.queue; time = s.time })
keep_kept s test i =
    record {
      sets = i.sets;
      counts = i.counts;
      vacant = i.vacant;
      good = i.good;
      clean = i.clean;
      fits = keep_all test s.queue i.fits;
      distinct = keep_distinct test s.queue i.distinct;
      stuck = keep_all test s.queue i.stuck;
      time = i.time;
      in_time = keep_all test s.queue i.in_time;
    }
