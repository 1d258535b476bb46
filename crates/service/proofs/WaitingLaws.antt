-- Who waits at the semaphores of a set: the operation where a sleeper stops, and a walk over the processes that gathers masks
-- and counts.
use Rattle.std.proofs.Common.{◌≡◌, ℕ, suc, ◌+◌, ◌-◌, ◌%◌, ◌^◌, ◌<◌, ◌≤◌, Bool, true, false, cond, not, ◌&&◌, eqb, List, [], ◌∷◌, length, get_or, replicate, sym, refl, ap, ◌∙◌, subst, ap₂, mod-eq_of_lt, zero-lt-suc, arith, length-set, get_or-set_other, get_or-set_same, eq-eqb, ne_eqb, eqb-true}
use lib.Bits.{bit_or, or_zero_r}
use lib.Count.{ones}
use borrow.Author.Tests.{eqb-false}
use Rattle.model.specs.declared.Operation.{Operation}
use Rattle.model.specs.declared.Outcome.{Outcome}
use Rattle.model.specs.declared.Outcome.TheVariants.{Done, Sleep, Again, Range}
use Rattle.model.specs.Limits.{slots, semaphores, processes}
use Rattle.model.specs.State.{Table, Sleeper, no_sleeper, row}
use Rattle.model.specs.Operation.{operations_of, is_negative, has_bit}
use Rattle.model.specs.Judge.{finishes, judge}
use Rattle.model.specs.Look.{values_of, look, copies_of}
use Rattle.model.specs.Marks.{bit_of, mine, mask_of}
use Rattle.model.specs.Counts.{no_operation, stop, stops_at, for_increase, for_zero, judged_at}
use Rattle.model.specs.WholeSet.{each}
use Rattle.model.specs.Runs.{All, none, also}
use Rattle.model.specs.Invariant.{Distinct}
use Rattle.model.proofs.Lists.{all_at, all_map}
use Rattle.model.proofs.LookLaws.{copies_fine, numbers_fit}
use Rattle.model.proofs.Ones.{ones_mask}
use Rattle.model.proofs.WholeSetLaws.{each_is, stops}
use Rattle.host.specs.Parts.{Row, values, sleeps_at, sizes}
use Rattle.host.specs.Rows.{from}
use Rattle.host.specs.Holding.{Host, Held, of_process, the_slot, the_size, entry, room_in, array_in, queue_in, table_in, state_in}
use Rattle.host.specs.Queue.{Room}
use Rattle.host.proofs.ProcessLaws.{of_own}
use Rattle.host.proofs.SleeperLaws.{zeros_at}
use Rattle.host.proofs.QueueRows.{array_read_back}
use Rattle.judging.specs.Stop.{stop_from, goes_through}
use Rattle.judging.proofs.StopLaws.{stop_in_room}
use Rattle.service_waking.proofs.LookLaws.{values_read}
use Rattle.service_waking.proofs.ByProcess.{up_to, mask_start, mask_end, mask_next, mask_lacks, by_next}
use Rattle.service.specs.Waiting.{waiters_of, wait_if}
use Rattle.service.proofs.EventLaws.{held_invariant, held_row, held_counts}

-- ---- the sleeper of a process

-- it stands somewhere in the queue
record Seat (p : ℕ) (q : List Sleeper) : Type 0 where
  at : ℕ
  there : at < length q
  own : (get_or q at no_sleeper).process ≡ p

-- whoever passes a test is there
seated : (test : Sleeper → Bool) (p : ℕ) (q : List Sleeper) → of_process false test p q ≡ true → Seat p q
unfolding of_process
seated test p [] e = let z : ◌≡◌ {A = ℕ} 0 1 = cc in absurd (omega arith)
seated test p (s ∷ q) e = go (eqb s.process p) refl e (seated test p q)
  where
    go : (b : Bool) → eqb s.process p ≡ b → cond b (test s) (of_process false test p q) ≡ true → (of_process false test p q ≡ true → Seat p q) → Seat p (s ∷ q)
    go true h e ih = record { at = 0; there = zero-lt-suc (length q); own = eqb-true s.process p h }
    go false h e ih = let r : Seat p q = ih e in record { at = suc r.at; there = omega (arith, r.there); own = r.own }

-- nobody passes a test that asks more
of_less : (test more : Sleeper → Bool) (p : ℕ) (q : List Sleeper) → ((s : Sleeper) → test s ≡ false → more s ≡ false) → of_process false test p q ≡ false → of_process false more p q ≡ false
unfolding of_process
of_less test more p [] h e = refl
of_less test more p (s ∷ q) h e = go (eqb s.process p) e (of_less test more p q h)
  where
    go : (b : Bool) → cond b (test s) (of_process false test p q) ≡ false → (of_process false test p q ≡ false → of_process false more p q ≡ false) → cond b (more s) (of_process false more p q) ≡ false
    go true e ih = h s e
    go false e ih = ih e

-- a sleeper of a slot is known by what stands at its process: no array is empty
of_mine : (slot p : ℕ) (q : List Sleeper) → All (λ (s : Sleeper). 0 < length s.array) q
    → of_process false (mine slot) p q ≡ eqb (of_process 0 the_slot p q) slot && not (eqb (of_process 0 the_size p q) 0)
unfolding of_process mine
of_mine slot p [] none = go (eqb 0 slot)
  where
    go : (b : Bool) → false ≡ b && false
    go true = refl
    go false = refl
of_mine slot p (s ∷ q) (also h t) = go (eqb s.process p) (of_mine slot p q t)
  where
    some : (b : Bool) → b ≡ b && true
    some true = refl
    some false = refl

    go : (b : Bool) → of_process false (mine slot) p q ≡ eqb (of_process 0 the_slot p q) slot && not (eqb (of_process 0 the_size p q) 0)
        → cond b (eqb s.slot slot) (of_process false (mine slot) p q) ≡ eqb (cond b s.slot (of_process 0 the_slot p q)) slot && not (eqb (cond b (length s.array) (of_process 0 the_size p q)) 0)
    go true ih = rw (ne_eqb (length s.array) 0 (λ e. omega (arith, h))) (some (eqb s.slot slot))
    go false ih = ih

-- `slot_byte(..) == slot && size_at(..) != 0`, by what was read
pub sleeps_here : (slot : ℕ) {a m b n : ℕ} → a ≡ m → b ≡ n → a ≡ slot → not (eqb b 0) ≡ (eqb m slot && not (eqb n 0))
sleeps_here slot e f h = rw (← e, ← f, eq-eqb _ _ h)

-- ---- where a sleeper stops

sleeps : (o : Outcome) → finishes o ≡ false → o ≡ Sleep
unfolding finishes
sleeps Done e = let z : ◌≡◌ {A = ℕ} 0 1 = cc in absurd (omega arith)
sleeps Sleep e = refl
sleeps Again e = let z : ◌≡◌ {A = ℕ} 0 1 = cc in absurd (omega arith)
sleeps Range e = let z : ◌≡◌ {A = ℕ} 0 1 = cc in absurd (omega arith)

-- a number that is told within a set is within it again
pub within_again : (o : ℕ) {n : ℕ} → n ≡ o % semaphores → n % semaphores ≡ o % semaphores
within_again o e = ap (λ (k : ℕ). k % semaphores) e ∙ mod-eq_of_lt (omega arith)

-- the sleeper of a process, of a slot
module _ (x : Host) (k : Held x) (slot : ℕ) (small : slot < slots) {p : ℕ} (seat : Seat p (queue_in x.row)) (here : mine slot (get_or (queue_in x.row) seat.at no_sleeper) ≡ true) where
  abbrev sleeper : Sleeper
  sleeper = get_or (queue_in x.row) seat.at no_sleeper

  array_own : array_in x.row p ≡ (get_or (queue_in x.row) seat.at no_sleeper).array
  array_own =
      ap (array_in x.row) (sym seat.own)
      ∙ ap (λ (r : Row). array_in r sleeper.process) (held_row x k).holds
      ∙ array_read_back (queue_in x.row) (held_row x k).fits seat.at seat.there x.row

  stuck : finishes (look (table_in x) (get_or (queue_in x.row) seat.at no_sleeper)).outcome ≡ false
  stuck = all_at (queue_in x.row) seat.at no_sleeper (held_invariant x k).stuck seat.there

  -- by the values, and in its room, it stops where judging stops
  module _ {o : Operation} {vs : List ℕ} (ev : vs ≡ from 0 semaphores (row slot) (x.row values)) (eo : o ≡ (stop_from (operations_of (room_in x.row p)) vs).operation) where
    stop_is : (o ≡ stop (table_in x) (get_or (queue_in x.row) seat.at no_sleeper)) × (goes_through (operations_of (room_in x.row p)) vs ≡ false)
    unfolding stop look mine array_in
    stop_is =
        let t : Table = table_in x in
        let v = held_invariant x k in
        let f = all_at (queue_in x.row) seat.at no_sleeper v.fits seat.there in
        let n : ℕ = get_or (x.row sizes) (entry p) 0 in
        let read : vs ≡ (copies_of t sleeper).values = ev ∙ values_read t slot v.good.values small ∙ ap (values_of t) (sym (eqb-true _ _ here)) in
        let found = stop_in_room (room_in x.row p) n (copies_of t sleeper) (copies_fine t sleeper v.good f)
        (subst (λ (a : List ℕ). All (λ (o : Operation). o.number < semaphores) (operations_of a)) (sym array_own) (numbers_fit v.counts sleeper f))
        (subst (λ (a : List ℕ). (judge (copies_of t sleeper) (operations_of a)).outcome ≡ Sleep) (sym array_own) (sleeps _ stuck)) in (
          eo ∙ ap (λ (w : List ℕ). (stop_from (operations_of (room_in x.row p)) w).operation) read
              ∙ found.0
              ∙ ap (λ (a : List ℕ). get_or (operations_of a) (judge (copies_of t sleeper) (operations_of a)).position no_operation) array_own,
          ap (goes_through (operations_of (room_in x.row p))) read ∙ found.1,
        )

    number_small : o.number < semaphores
    number_small =
        let v = held_invariant x k in
        let l = all_at (queue_in x.row) seat.at no_sleeper (stops (state_in x) v) seat.there in
        omega (arith, ap (λ (y : Operation). y.number) stop_is.0, l, held_counts x k sleeper.slot)

    for_increase_lem : (n : ℕ) → for_increase (table_in x) slot n (get_or (queue_in x.row) seat.at no_sleeper) ≡ eqb o.number n && is_negative o.amount
    unfolding for_increase stops_at
    for_increase_lem n = rw (here, stuck, stop_is.0)

    for_zero_lem : (n : ℕ) → for_zero (table_in x) slot n (get_or (queue_in x.row) seat.at no_sleeper) ≡ eqb o.number n && not (is_negative o.amount)
    unfolding for_zero stops_at
    for_zero_lem n = rw (here, stuck, stop_is.0)

-- ---- masks, one for each semaphore

bit_next : (n : ℕ) → bit_of (n + 1) ≡ 2 ^ n
bit_next n = let e : n + 1 - 1 ≡ n = omega arith in ap (λ (m : ℕ). 2 ^ m) e

-- a mask gets the bit if the process waits there
wait_if_lem : (masks : List ℕ) (n k bit : ℕ) (b : Bool) → n < semaphores → length masks ≡ semaphores
    → get_or (wait_if b masks (n % semaphores) bit) k 0 ≡ bit_or (get_or masks k 0) (cond (eqb n k && b) bit 0)
wait_if_lem masks n k bit b l e = rw (mod-eq_of_lt l) (go b (eqb n k) refl)
  where
    go : (b c : Bool) → eqb n k ≡ c → get_or (wait_if b masks n bit) k 0 ≡ bit_or (get_or masks k 0) (cond (c && b) bit 0)
    go true true h = let z : n ≡ k = eqb-true n k h in rw z (get_or-set_same masks k (bit_or (get_or masks k 0) bit) 0 (omega arith))
    go true false h = get_or-set_other masks n k _ 0 (λ z. eqb-false n k h (sym z)) ∙ sym (or_zero_r (get_or masks k 0))
    go false true h = sym (or_zero_r (get_or masks k 0))
    go false false h = sym (or_zero_r (get_or masks k 0))

wait_long : (masks : List ℕ) (n bit : ℕ) (b : Bool) → length (wait_if b masks n bit) ≡ length masks
wait_long masks n bit true = length-set masks n _
wait_long masks n bit false = refl

-- at each semaphore those of the processes to n who pass its test
pub record Gathered (tests : ℕ → Sleeper → Bool) (q : List Sleeper) (masks : List ℕ) (n : ℕ) : Type 0 where
  pub long : length masks ≡ semaphores
  pub same : (k : ℕ) → k < semaphores → get_or masks k 0 ≡ mask_of (up_to (tests k) n) 0 q

module _ (tests : ℕ → Sleeper → Bool) (q : List Sleeper) where
  gathered_none : All Room q → Gathered tests q (replicate semaphores 0) 0
  gathered_none f =
      record {
        long = refl;
        same = λ k l. sym (zeros_at semaphores k) ∙ sym (mask_start (tests k) 0 f);
      }

  -- one process more, with a bit where it passes
  gathered_next : {masks masks' : List ℕ} {n : ℕ} → Distinct q → Gathered tests q masks n → length masks' ≡ length masks
      → ((k : ℕ) → get_or masks' k 0 ≡ bit_or (get_or masks k 0) (cond (of_process false (tests k) (n + 1) q) (2 ^ n) 0)) → Gathered tests q masks' (n + 1)
  gathered_next {masks} {masks'} {n} d g e h =
      record {
        long = e ∙ g.long;
        same = λ k l. h k ∙ ap (λ (m : ℕ). bit_or m (cond (of_process false (tests k) (n + 1) q) (2 ^ n) 0)) (g.same k l) ∙ sym (mask_next (tests k) n 0 q d);
      }

  gathered_all : {masks : List ℕ} {n : ℕ} → All Room q → Gathered tests q masks n → processes ≤ n → masks ≡ each (λ (k : ℕ). mask_of (tests k) 0 q)
  gathered_all {masks} {n} f g l =
      each_is (λ (k : ℕ). mask_of (tests k) 0 q) masks g.long
      (λ k h. g.same k h ∙ mask_end (tests k) n 0 f l)

-- ---- the walk: the processes to n are done

pub record Walked (x : Host) (slot : ℕ) (increase zero : List ℕ) (judged n : ℕ) : Type 0 where
  pub within : n ≤ processes
  pub increases : Gathered (for_increase (table_in x) slot) (queue_in x.row) increase n
  pub zeros : Gathered (for_zero (table_in x) slot) (queue_in x.row) zero n
  pub seen : judged ≡ mask_of (up_to (mine slot) n) 0 (queue_in x.row)

module _ (x : Host) (k : Held x) (slot : ℕ) where
  abbrev q : List Sleeper
  q = queue_in x.row

  abbrev rooms : All Room (queue_in x.row)
  rooms = (held_row x k).fits.rooms

  abbrev distinct : Distinct (queue_in x.row)
  distinct = (held_row x k).fits.distinct

  pub walked_none : Walked x slot (replicate semaphores 0) (replicate semaphores 0) 0 0
  walked_none =
      record {
        within = omega arith;
        increases = gathered_none _ q rooms;
        zeros = gathered_none _ q rooms;
        seen = sym (mask_start (mine slot) 0 rooms);
      }

  -- who was judged, counted
  pub walked_all : {increase zero : List ℕ} {judged n : ℕ} → Walked x slot increase zero judged n → processes ≤ n → record { increase = increase; zero = zero; judged = ones judged } ≡ waiters_of (table_in x) slot (queue_in x.row)
  walked_all {increase} {zero} {judged} {n} w l =
      let a = gathered_all _ q rooms w.increases l in
      let b = gathered_all _ q rooms w.zeros l in
      let v = held_invariant x k in
      let c : ones judged ≡ judged_at slot q = ap ones (w.seen ∙ mask_end (mine slot) n 0 rooms l) ∙ ones_mask (mine slot) q v.fits v.distinct in
      rw (a, b, c)

  -- the next process was not judged yet
  pub walked_not : {increase zero : List ℕ} {judged n : ℕ} → Walked x slot increase zero judged n → has_bit judged (bit_of (n + 1)) ≡ false
  walked_not {n = n} w = ap₂ has_bit w.seen (bit_next n) ∙ mask_lacks (mine slot) n rooms

  module _ (small : slot < slots) {increase zero : List ℕ} {judged n : ℕ} (w : Walked x slot increase zero judged n) (l : n < processes) {b : Bool}
      (e : b ≡ eqb (get_or (x.row sleeps_at) (entry (n + 1)) 0) (slot % 256) && not (eqb (get_or (x.row sizes) (entry (n + 1)) 0) 0)) where
    -- what the code asks is whether the process sleeps at the slot
    asked : of_process false (mine slot) (n + 1) (queue_in x.row) ≡ b
    asked =
        let whole : slot % 256 ≡ slot = omega arith in
        of_mine slot (n + 1) q (all_map (λ s f. f.some) (held_invariant x k).fits)
        ∙ sym (e ∙ rw (whole, by_next (held_row x k) sleeps_at the_slot n refl l, by_next (held_row x k) sizes the_size n refl l))

    seen_next : bit_or judged (cond b (2 ^ n) 0) ≡ mask_of (up_to (mine slot) (n + 1)) 0 (queue_in x.row)
    seen_next = ap₂ (λ (m : ℕ) (c : Bool). bit_or m (cond c (2 ^ n) 0)) w.seen (sym asked) ∙ sym (mask_next (mine slot) n 0 q distinct)

    -- it does not
    pub walked_by : b ≡ false → Walked x slot increase zero judged (n + 1)
    unfolding for_increase for_zero stops_at
    walked_by z =
        record {
          within = omega arith;
          increases = gathered_next _ q distinct w.increases refl (λ j. unmoved (get_or increase j 0) (of_less (mine slot) _ (n + 1) q (not_increase j) (asked ∙ z)));
          zeros = gathered_next _ q distinct w.zeros refl (λ j. unmoved (get_or zero j 0) (of_less (mine slot) _ (n + 1) q (not_zero j) (asked ∙ z)));
          seen = sym (or_zero_r judged) ∙ ap (λ (c : Bool). bit_or judged (cond c (2 ^ n) 0)) (sym z) ∙ seen_next;
        }
      where
        not_increase : (j : ℕ) (s : Sleeper) → mine slot s ≡ false → for_increase (table_in x) slot j s ≡ false
        not_increase j s h = rw h

        not_zero : (j : ℕ) (s : Sleeper) → mine slot s ≡ false → for_zero (table_in x) slot j s ≡ false
        not_zero j s h = rw h

        unmoved : (m : ℕ) {c : Bool} → c ≡ false → m ≡ bit_or m (cond c (2 ^ n) 0)
        unmoved m h = sym (rw h (or_zero_r m))

    -- it does, and is judged
    module _ (z : b ≡ true) where
      seat : Seat (n + 1) (queue_in x.row)
      seat = seated (mine slot) (n + 1) q (asked ∙ z)

      of_seat : (test : Sleeper → Bool) → of_process false test (n + 1) (queue_in x.row) ≡ test (get_or (queue_in x.row) seat.at no_sleeper)
      of_seat test = ap (λ (p : ℕ). of_process false test p q) (sym seat.own) ∙ of_own false test q seat.at distinct seat.there

      here : mine slot (get_or (queue_in x.row) seat.at no_sleeper) ≡ true
      here = sym (of_seat (mine slot)) ∙ asked ∙ z

      module _ {vs : List ℕ} (ev : vs ≡ from 0 semaphores (row slot) (x.row values)) where
        -- it stops somewhere
        pub stops_somewhere : goes_through (operations_of (room_in x.row (n + 1))) vs ≡ false
        stops_somewhere = (stop_is x k slot small seat here ev refl).1

        module _ {o : Operation} {increase' zero' : List ℕ}
            (eo : o ≡ (stop_from (operations_of (room_in x.row (n + 1))) vs).operation)
            (ei : increase' ≡ wait_if (is_negative o.amount) increase (o.number % semaphores) (bit_of (n + 1)))
            (ez : zero' ≡ wait_if (not (is_negative o.amount)) zero (o.number % semaphores) (bit_of (n + 1))) where
          -- masks that got the bit where it waits
          waited : (tests : ℕ → Sleeper → Bool) {masks masks' : List ℕ} (c : Bool) → Gathered tests (queue_in x.row) masks n → masks' ≡ wait_if c masks (o.number % semaphores) (bit_of (n + 1))
              → ((j : ℕ) → tests j (get_or (queue_in x.row) seat.at no_sleeper) ≡ eqb o.number j && c) → Gathered tests (queue_in x.row) masks' (n + 1)
          waited tests {masks} {masks'} c g e h =
              gathered_next tests q distinct g (ap length e ∙ wait_long masks (o.number % semaphores) (bit_of (n + 1)) c)
              (λ j. ap (λ (m : List ℕ). get_or m j 0) e ∙ wait_if_lem masks o.number j (bit_of (n + 1)) c (number_small x k slot small seat here ev eo) g.long
              ∙ ap₂ (λ (t : Bool) (bit : ℕ). bit_or (get_or masks j 0) (cond t bit 0)) (sym (of_seat (tests j) ∙ h j)) (bit_next n))

          pub walked_more : Walked x slot increase' zero' (bit_or judged (bit_of (n + 1))) (n + 1)
          walked_more =
              record {
                within = omega arith;
                increases = waited (for_increase (table_in x) slot) (is_negative o.amount) w.increases ei (for_increase_lem x k slot small seat here ev eo);
                zeros = waited (for_zero (table_in x) slot) (not (is_negative o.amount)) w.zeros ez (for_zero_lem x k slot small seat here ev eo);
                seen = ap (bit_or judged) (bit_next n) ∙ ap (λ (c : Bool). bit_or judged (cond c (2 ^ n) 0)) (sym z) ∙ seen_next;
              }
