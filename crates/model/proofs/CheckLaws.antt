-- What holds once the checks of an event apply to nothing.
use Prim.Native.Nat.{ℕ, zero, suc, ◌+◌, ◌*◌, ◌/◌, ◌%◌, ◌≤◌, ◌<◌}
use native.Mathlib.Nat.{mod-lt, zero-lt-suc}
use native.Mathlib.Omega.{arith}
use mathlib.Core.Path.{◌≡◌, refl, ap, ◌∙◌}
use mathlib.Core.Logic.{◌≢◌}
use mathlib.Core.Bool.{Bool, true, false, cond, ◌||◌, ◌&&◌}
use mathlib.Core.List.{List, [], ◌∷◌}
use lib.Dec.{eqb, ltb, leb}
use lib.ListN.{length}
use lib.IntN.{ℤ, pos, negsuc, nat_abs}
use borrow.Author.Tests.{eqb-true, eqb-false, ltb-true, ltb-false, leb-true, leb-false, not-false}
use Rattle.model.specs.declared.Set.{Set}
use Rattle.model.specs.declared.Operation.{Operation}
use Rattle.model.specs.Limits.{slots, semaphores, processes, value_max, mode_max, time_max, operation_bytes, array_bytes, value_bytes}
use Rattle.model.specs.State.{State, Sleeper, Wait}
use Rattle.model.specs.Operation.{operation_at, operations_from, operations_of}
use Rattle.model.specs.Checks.{check, or_else, live, slot_of, names_set, no_process, number_too_high, free_from, free_slot, check_caller, check_access, check_create, check_operate, check_query, in_range, check_set_value, all_in_range, check_set_all, check_remove, check_process, check_clock}
use Rattle.model.specs.Permission.{reading, altering}
use Rattle.model.specs.Values.{values_from, values_in, held}
use Rattle.model.specs.Events.{call}
use Rattle.model.specs.Runs.{All, none, also}
use Rattle.model.proofs.Lists.{first}
use Rattle.model.specs.Invariant.{Fits, Other, Invariant, count_at}
use Rattle.model.proofs.QueueLaws.{awake, fewer_awake}

-- ---- tests

pub or_false : (x y : Bool) → x || y ≡ false → (x ≡ false) × (y ≡ false)
or_false false y e = (refl, e)
or_false true y e = (e, let z : ◌≡◌ {A = ℕ} 0 1 = cc in absurd (omega arith))

pub and_true : (x y : Bool) → x && y ≡ true → (x ≡ true) × (y ≡ true)
and_true true y e = (refl, e)
and_true false y e = (e, let z : ◌≡◌ {A = ℕ} 0 1 = cc in absurd (omega arith))

-- a check that does not apply leaves the later ones
pub passes : (applies : Bool) (code later : ℕ) → 0 < code → check applies code later ≡ 0 → (applies ≡ false) × (later ≡ 0)
passes false code later h e = (refl, e)
passes true code later h e = absurd (omega arith)

-- .. and so do checks with a code of their own
pub passes_both : (code later : ℕ) → or_else code later ≡ 0 → (code ≡ 0) × (later ≡ 0)
passes_both zero later e = (refl, e)
passes_both (suc code) later e = absurd (omega arith)

nonzero : (n : ℕ) → eqb n 0 ≡ false → 0 < n
nonzero n e = omega (arith, eqb-false n 0 e)

-- ---- processes, sets and numbers

pub process_range : (p : ℕ) → no_process p ≡ false → (1 ≤ p) × (p ≤ processes)
unfolding no_process
process_range p e = let x : (eqb p 0 ≡ false) × (ltb processes p ≡ false) = or_false (eqb p 0) (ltb processes p) e in
    (nonzero p x.0, ltb-false processes p x.1)

-- a caller is a process, and awake
pub record Awake (s : State) (p : ℕ) : Type 0 where
  pub process : 1 ≤ p
  pub last : p ≤ processes
  pub others : All (λ (q : Sleeper). q.process ≢ p) s.queue

pub caller_passes : (s : State) (p : ℕ) → check_caller s p ≡ 0 → Awake s p
unfolding check_caller
caller_passes s p e =
    let a = passes _ 3 _ (zero-lt-suc _) e in
    let b = passes _ 16 0 (zero-lt-suc _) a.1 in
    let r = process_range p a.0 in
    record { process = r.0; last = r.1; others = awake p s.queue b.0 }

-- so fewer than all processes sleep
pub awake_few : {s : State} {p : ℕ} → Awake s p → Invariant s → length s.queue < processes
awake_few {s} {p} a i = fewer_awake p s.queue a.process a.last a.others i.fits i.distinct

pub record Named (sets : List Set) (i : ℤ) : Type 0 where
  pub slot : slot_of i < slots
  pub some : 0 < count_at sets (slot_of i)

pub names_live : (sets : List Set) (i : ℤ) → names_set sets i ≡ true → Named sets i
unfolding names_set slot_of
names_live sets (pos i) e = record { slot = mod-lt i (zero-lt-suc 3); some = ltb-true 0 _ (and_true _ _ e).0 }
names_live sets (negsuc i) e = let z : ◌≡◌ {A = ℕ} 0 1 = cc in absurd (omega arith)

-- a caller that names a live set
pub record Accessible (s : State) (p : ℕ) (i : ℤ) : Type 0 where
  pub caller : Awake s p
  pub named : Named s.sets i

pub access_passes : (s : State) (p : ℕ) (i : ℤ) (asked : ℕ) → check_access s p i asked ≡ 0 → Accessible s p i
unfolding check_access
access_passes s p i asked e =
    let a = passes_both (check_caller s p) _ e in
    let b = passes _ 22 _ (zero-lt-suc _) a.1 in
    record { caller = caller_passes s p a.0; named = names_live s.sets i (not-false _ b.0) }

pub numbers_below : (count : ℕ) (os : List Operation) → number_too_high count os ≡ false → All (λ (o : Operation). o.number < count) os
unfolding number_too_high
numbers_below count [] e = none
numbers_below count (o ∷ os) e =
    let x : (leb count o.number ≡ false) × (number_too_high count os ≡ false) = or_false (leb count o.number) (number_too_high count os) e in
    also (leb-false count o.number x.0) (numbers_below count os x.1)

-- a sleeper's array has an operation: what holds of all holds of its first
pub at_first : {P : Operation → Type 0} (sets : List Set) (s : Sleeper) → Fits sets s → All P (operations_of s.array) → P (operation_at s.array 0)
unfolding operations_from
at_first {P} sets s f = go (length s.array / operation_bytes) refl
  where
    go : (n : ℕ) → length s.array / operation_bytes ≡ n → All P (operations_from s.array 0 n) → P (operation_at s.array 0)
    go zero e h = absurd (omega (arith, f.some, f.whole))
    go (suc n) e h = first h

-- .. so its set is live
pub alive : (sets : List Set) (s : Sleeper) → Fits sets s → 0 < count_at sets s.slot
alive sets s f = let x : (operation_at s.array 0).number < count_at sets s.slot = at_first sets s f f.numbers in omega arith

-- ---- create

-- the slot that is found is free, if it is one of those looked at
free_from_lem : (sets : List Set) (slot n : ℕ) → (free_from sets slot n ≤ slot + n) × (free_from sets slot n < slot + n → live sets (free_from sets slot n) ≡ false)
unfolding free_from
free_from_lem sets slot zero = (omega arith, λ h. absurd (omega arith))
free_from_lem sets slot (suc n) = go (live sets slot) refl (free_from_lem sets (slot + 1) n)
  where
    go : (b : Bool) → live sets slot ≡ b → (free_from sets (slot + 1) n ≤ slot + 1 + n) × (free_from sets (slot + 1) n < slot + 1 + n → live sets (free_from sets (slot + 1) n) ≡ false)
        → (cond b (free_from sets (slot + 1) n) slot ≤ slot + suc n) × (cond b (free_from sets (slot + 1) n) slot < slot + suc n → live sets (cond b (free_from sets (slot + 1) n) slot) ≡ false)
    go true e h = (omega (arith, h.0), λ k. h.1 (omega arith))
    go false e h = (omega arith, λ k. e)

pub record Creatable (s : State) (p count : ℕ) : Type 0 where
  pub caller : Awake s p
  pub some : 0 < count
  pub fits : count ≤ semaphores
  pub slot : free_slot s.sets < slots
  pub free : count_at s.sets (free_slot s.sets) ≡ 0

pub create_passes : (s : State) (p count mode : ℕ) → check_create s p count mode ≡ 0 → Creatable s p count
unfolding check_create
create_passes s p count mode e =
    let w = passes_both (check_caller s p) _ e in
    let a = passes _ 22 _ (zero-lt-suc _) w.1 in
    let o = or_false (eqb count 0 || ltb semaphores count) (ltb mode_max mode) a.0 in
    let b = or_false (eqb count 0) (ltb semaphores count) o.0 in
    let c = passes (eqb (free_slot s.sets) slots) 28 0 (zero-lt-suc _) a.1 in
    let f = free_from_lem s.sets 0 slots in
    let lt : free_slot s.sets < slots = omega (arith, f.0, eqb-false (free_slot s.sets) slots c.0) in
    record {
      caller = caller_passes s p w.0;
      some = nonzero count b.0;
      fits = ltb-false semaphores count b.1;
      slot = lt;
      free = omega (arith, ltb-false 0 (count_at s.sets (free_slot s.sets)) (f.1 (omega arith)));
    }

-- ---- operate

pub record Operable (s : State) (p : ℕ) (i : ℤ) (wait : Wait) (bytes : List ℕ) : Type 0 where
  pub caller : Awake s p
  pub fits : Fits s.sets (call s.time p i wait bytes)
  pub others : All (Other (call s.time p i wait bytes)) s.queue

pub operate_passes : (s : State) (p : ℕ) (i : ℤ) (wait : Wait) (bytes : List ℕ) → check_operate s p i bytes ≡ 0 → Operable s p i wait bytes
unfolding check_operate
operate_passes s p i wait bytes e =
    let a = passes_both (check_caller s p) _ e in
    let w : Awake s p = caller_passes s p a.0 in
    let c = passes _ 22 _ (zero-lt-suc _) a.1 in
    let d = or_false (eqb (length bytes) 0) _ c.0 in
    let f = passes _ 7 _ (zero-lt-suc _) c.1 in
    let g = passes _ 22 _ (zero-lt-suc _) f.1 in
    let h = passes _ 27 _ (zero-lt-suc _) g.1 in
    let n : Named s.sets i = names_live s.sets i (not-false _ g.0) in
    record {
      caller = w;
      fits = record {
        process = w.process;
        last = w.last;
        slot = n.slot;
        some = nonzero (length bytes) d.0;
        whole = eqb-true (length bytes % operation_bytes) 0 (not-false _ d.1);
        short = ltb-false array_bytes (length bytes) f.0;
        numbers = numbers_below (count_at s.sets (slot_of i)) (operations_of bytes) h.0;
      };
      others = w.others;
    }

-- ---- set value and query

pub record InSet (s : State) (p : ℕ) (i : ℤ) (n : ℕ) : Type 0 where
  pub caller : Awake s p
  pub slot : slot_of i < slots
  pub number : n < count_at s.sets (slot_of i)

in_set : (s : State) (p : ℕ) (i : ℤ) (asked n : ℕ) → check_access s p i asked ≡ 0 → leb (count_at s.sets (slot_of i)) n ≡ false → InSet s p i n
in_set s p i asked n e h =
    let a : Accessible s p i = access_passes s p i asked e in
    record { caller = a.caller; slot = a.named.slot; number = leb-false (count_at s.sets (slot_of i)) n h }

pub query_passes : (s : State) (p : ℕ) (i : ℤ) (n : ℕ) → check_query s p i n ≡ 0 → InSet s p i n
unfolding check_query
query_passes s p i n e =
    let a = passes_both (check_access s p i reading) _ e in
    in_set s p i reading n a.0 (passes _ 22 0 (zero-lt-suc _) a.1).0

in_range_lem : (v : ℤ) → in_range v ≡ true → nat_abs v ≤ value_max
unfolding in_range
in_range_lem (pos v) e = leb-true v value_max e
in_range_lem (negsuc v) e = let z : ◌≡◌ {A = ℕ} 0 1 = cc in absurd (omega arith)

pub record Assignable (s : State) (p : ℕ) (i : ℤ) (n : ℕ) (v : ℤ) : Type 0 where
  pub numbered : InSet s p i n
  pub value : nat_abs v ≤ value_max

pub set_value_passes : (s : State) (p : ℕ) (i : ℤ) (n : ℕ) (v : ℤ) → check_set_value s p i n v ≡ 0 → Assignable s p i n v
unfolding check_set_value
set_value_passes s p i n v e =
    let a = passes_both (check_access s p i altering) _ e in
    let b = passes _ 22 _ (zero-lt-suc _) a.1 in
    let c = passes _ 34 0 (zero-lt-suc _) b.1 in
    record { numbered = in_set s p i altering n a.0 b.0; value = in_range_lem v (not-false _ c.0) }

-- ---- set all

length_held : (vs : List ℤ) → length (held vs) ≡ length vs
unfolding held
length_held [] = refl
length_held (v ∷ vs) = ap suc (length_held vs)

length_values : (bytes : List ℕ) (at n : ℕ) → length (values_from bytes at n) ≡ n
unfolding values_from
length_values bytes at zero = refl
length_values bytes at (suc n) = ap suc (length_values bytes (at + value_bytes) n)

all_in_range_lem : (vs : List ℤ) → all_in_range vs ≡ true → All (λ (v : ℕ). v ≤ value_max) (held vs)
unfolding all_in_range held
all_in_range_lem [] e = none
all_in_range_lem (v ∷ vs) e = let x = and_true (in_range v) (all_in_range vs) e in also (in_range_lem v x.0) (all_in_range_lem vs x.1)

wholes : (size n : ℕ) → size ≡ value_bytes * n → size / value_bytes ≡ n
wholes size n e = omega arith

pub record AllAssignable (s : State) (p : ℕ) (i : ℤ) (bytes : List ℕ) : Type 0 where
  pub caller : Awake s p
  pub named : Named s.sets i
  pub size : length bytes ≡ value_bytes * count_at s.sets (slot_of i)
  pub count : length (held (values_in bytes)) ≡ count_at s.sets (slot_of i)
  pub range : all_in_range (values_in bytes) ≡ true
  pub values : All (λ (v : ℕ). v ≤ value_max) (held (values_in bytes))

pub set_all_passes : (s : State) (p : ℕ) (i : ℤ) (bytes : List ℕ) → check_set_all s p i bytes ≡ 0 → AllAssignable s p i bytes
unfolding check_set_all
set_all_passes s p i bytes e =
    let a = passes_both (check_access s p i altering) _ e in
    let x : Accessible s p i = access_passes s p i altering a.0 in
    let b = passes _ 22 _ (zero-lt-suc _) a.1 in
    let c = passes _ 34 0 (zero-lt-suc _) b.1 in
    let size : length bytes ≡ value_bytes * count_at s.sets (slot_of i) = eqb-true _ _ (not-false _ b.0) in
    let range : all_in_range (values_in bytes) ≡ true = not-false _ c.0 in
    record {
      caller = x.caller;
      named = x.named;
      size = size;
      count = length_held (values_in bytes) ∙ length_values bytes 0 (length bytes / value_bytes) ∙ wholes (length bytes) (count_at s.sets (slot_of i)) size;
      range = range;
      values = all_in_range_lem (values_in bytes) range;
    }

-- ---- remove

pub remove_passes : (s : State) (p : ℕ) (i : ℤ) → check_remove s p i ≡ 0 → Named s.sets i
unfolding check_remove
remove_passes s p i e = names_live s.sets i (not-false _ (passes _ 22 _ (zero-lt-suc _) (passes_both (check_caller s p) _ e).1).0)

pub process_passes : (p : ℕ) → check_process p ≡ 0 → (1 ≤ p) × (p ≤ processes)
unfolding check_process
process_passes p e = process_range p (passes _ 3 0 (zero-lt-suc _) e).0

-- ---- the clock

pub clock_passes : (s : State) (now : ℕ) → check_clock s now ≡ 0 → (s.time ≤ now) × (now ≤ time_max)
unfolding check_clock
clock_passes s now e =
    let a = passes _ 22 0 (zero-lt-suc _) e in
    let b = or_false (ltb now s.time) (ltb time_max now) a.0 in
    (ltb-false now s.time b.0, ltb-false time_max now b.1)
