-- The parts of the row that hold the queue: reading a sleeper, one that joins, and one that is taken out.
use Rattle.std.proofs.Common.{◌≡◌, ℕ, zero, suc, ◌+◌, ◌-◌, ◌*◌, ◌<◌, ◌≤◌, min, List, [], ◌∷◌, ◌++◌, map, length, get_or, take, set, replicate, sym, refl, ap, ◌∙◌, subst, ap₂, append_assoc, le_of_suc-le-suc, not-suc-le-zero, arith, length-append, take_all, take_at, ext_get_or}
use native.Mathlib.Nat.{min-eq_right}
use lib.ListN.{length-replicate, length-map, replicate-append-replicate, get_or-append, get_or-map}
use lib.Seq.{sets, paste, set-append_seam, append_snoc}
use Rattle.model.specs.declared.Set.{Set}
use Rattle.model.specs.Limits.{processes, array_bytes}
use Rattle.model.specs.State.{Sleeper, no_sleeper}
use Rattle.model.specs.Waking.{without}
use Rattle.model.specs.Runs.{All}
use Rattle.model.specs.Invariant.{Fits, Distinct}
use Rattle.model.proofs.Lists.{all_map, all_at, all_without, length_without}
use Rattle.model.proofs.QueueLaws.{distinct_without, others_without, fits_few}
use Rattle.host.specs.Parts.{asleep, order, sleeps_at, sizes, waits, arrays, Row, with, put}
use Rattle.host.specs.Holding.{by_process, blocks_from, order_of, the_slot, the_size, the_wait, Kept, kept, with_queue, entry, array_in, sleeper_in, queue_in}
use Rattle.host.specs.Waits.{wait_of}
use Rattle.host.specs.Queue.{Room, Queued}
use Rattle.host.proofs.PartLaws.{by_groups}
use Rattle.host.proofs.RowLaws.{sets_paste}
use Rattle.host.proofs.WaitLaws.{wait_back}
use Rattle.host.proofs.ProcessLaws.{Awake, of_awake, of_none, of_first, of_before, of_without, of_own, of_process_lem, by_changed, length_arrays, arrays_cleared, arrays_stored, array_read, array_of}

pub entry_is : (p : ℕ) → 1 ≤ p → entry p ≡ p - 1
entry_is zero h = absurd (omega arith)
entry_is (suc p) h = omega arith

pub queued : {sets : List Set} (q : List Sleeper) → All (Fits sets) q → Distinct q → Queued q
queued q f d =
    record { few = fits_few q f d; rooms = all_map (λ s k. record { process = k.process; last = k.last; short = k.short }) f; distinct = d }

pub queued_without : (q : List Sleeper) (i : ℕ) → i < length q → Queued q → Queued (without q i)
queued_without q i h f =
    record { few = omega (arith, f.few, length_without q i h); rooms = all_without q i f.rooms; distinct = distinct_without q i f.distinct }

-- ---- the order: a list of at most n elements in n places, free ones behind them

module _ {A : Type 0} where
  abbrev placed : ℕ → A → List A → List A
  placed n z xs = xs ++ replicate (n - length xs) z

  without_left : (xs ys : List A) (i : ℕ) → i < length xs → without (xs ++ ys) i ≡ without xs i ++ ys
  unfolding without
  without_left [] ys i h = absurd (not-suc-le-zero h)
  without_left (x ∷ xs) ys zero h = refl
  without_left (x ∷ xs) ys (suc i) h = ap (λ (r : List A). x ∷ r) (without_left xs ys i (le_of_suc-le-suc h))

  placed_without : (n : ℕ) (z : A) (xs : List A) (i : ℕ) → i < length xs → length xs ≤ n
      → without (placed n z xs) i ++ z ∷ [] ≡ placed n z (without xs i)
  placed_without n z xs i h m =
      let e : n - length xs + 1 ≡ n - length (without xs i) = omega (arith, length_without xs i h) in
      ap (λ (r : List A). r ++ z ∷ []) (without_left xs (replicate (n - length xs) z) i h)
      ∙ append_assoc (without xs i) (replicate (n - length xs) z) (z ∷ [])
      ∙ ap (λ (r : List A). without xs i ++ r) (replicate-append-replicate (n - length xs) 1 z ∙ ap (λ (k : ℕ). replicate k z) e)

  placed_joined : (n : ℕ) (z : A) (xs : List A) (x : A) → length xs < n → set (placed n z xs) (length xs) x ≡ placed n z (xs ++ x ∷ [])
  placed_joined n z xs x h =
      let k = n - length (xs ++ x ∷ []) in
      let e : n - length xs ≡ suc k = omega (arith, length-append xs (x ∷ [])) in
      ap (λ (m : ℕ). set (xs ++ replicate m z) (length xs) x) e ∙ set-append_seam xs z (replicate k z) x ∙ sym (append_snoc xs x (replicate k z))

  length_placed : (n : ℕ) (z : A) (xs : List A) → length xs ≤ n → length (placed n z xs) ≡ n
  length_placed n z xs h = omega (arith, length-append xs (replicate (n - length xs) z), length-replicate (n - length xs) z)

  module _ {B : Type 0} (f : A → B) where
    map_without : (l : List A) (i : ℕ) → without (map f l) i ≡ map f (without l i)
    unfolding without
    map_without [] i = refl
    map_without (x ∷ l) zero = refl
    map_without (x ∷ l) (suc i) = ap (λ (r : List B). f x ∷ r) (map_without l i)

    map-append : (l m : List A) → map f (l ++ m) ≡ map f l ++ map f m
    map-append [] m = refl
    map-append (x ∷ l) m = ap (λ (r : List B). f x ∷ r) (map-append l m)

abbrev the_process : Sleeper → ℕ
the_process s = s.process

order_placed : (q : List Sleeper) → order_of q ≡ placed processes 0 (map the_process q)
unfolding order_of
order_placed q = rw (length-map q the_process)

pub length_order : (q : List Sleeper) → length q ≤ processes → length (order_of q) ≡ processes
length_order q h = rw (order_placed q) (length_placed processes 0 (map the_process q) (omega (arith, length-map q the_process)))

pub order_at : (q : List Sleeper) (i : ℕ) → i < length q → get_or (order_of q) i 0 ≡ (get_or q i no_sleeper).process
unfolding order_of
order_at q i h =
    get_or-append (map the_process q) (replicate (processes - length q) 0) 0 i (rw (length-map q the_process) h) ∙ get_or-map the_process q i no_sleeper

order_first : (q : List Sleeper) → take (length q) (order_of q) ≡ map the_process q
unfolding order_of
order_first q = take_at (map the_process q) (replicate (processes - length q) 0) (length q) (length-map q the_process)

pub order_without : (q : List Sleeper) (i : ℕ) → i < length q → length q ≤ processes → without (order_of q) i ++ 0 ∷ [] ≡ order_of (without q i)
order_without q i h m =
    rw (order_placed q, order_placed (without q i), ← map_without the_process q i)
    (placed_without processes 0 (map the_process q) i (omega (arith, length-map q the_process)) (omega (arith, length-map q the_process)))

pub order_joined : (q : List Sleeper) (s : Sleeper) → length q < processes → set (order_of q) (length q) s.process ≡ order_of (q ++ s ∷ [])
order_joined q s h =
    let e : length (map the_process q) ≡ length q = length-map q the_process in
    rw (order_placed q, order_placed (q ++ s ∷ []), map-append the_process q (s ∷ []), ← e) (placed_joined processes 0 (map the_process q) s.process (omega arith))

-- ---- the numbers that are kept by process

-- what a process has of them, replaced
abbrev pub with_entry : List Kept → ℕ → (Kept → ℕ) → Row → Row
with_entry [] p f r = r
with_entry (k ∷ ks) p f r = with_entry ks p f (put r k.part (entry p) (f k))

map_each : {A B : Type 0} {f g : A → B} (l : List A) → ((x : A) → f x ≡ g x) → map f l ≡ map g l
map_each [] e = refl
map_each {B = B} (x ∷ l) e = ap₂ (λ (y : B) (r : List B). y ∷ r) (e x) (map_each l e)

-- the parts of two queues, one by one
queue_parts_lem : {a b c d e f : List ℕ} {l m : List (List ℕ)} → a ≡ b → c ≡ d → l ≡ m → e ≡ f → a ∷ c ∷ l ++ e ∷ [] ≡ b ∷ d ∷ m ++ f ∷ []
queue_parts_lem p q r s = cc

-- ---- the sleeper at a position

module _ (q : List Sleeper) (f : Queued q) (i : ℕ) (h : i < length q) where
  abbrev sleeper : Sleeper
  sleeper = get_or q i no_sleeper

  pub room_at : Room (get_or q i no_sleeper)
  room_at = all_at q i no_sleeper f.rooms h

  -- what it keeps by its process
  pub kept_read : (g : Sleeper → ℕ) → get_or (by_process g processes 1 q) (entry (get_or q i no_sleeper).process) 0 ≡ g (get_or q i no_sleeper)
  kept_read g =
      rw (entry_is sleeper.process room_at.process)
      (of_process_lem g q sleeper.process room_at.process room_at.last ∙ of_own 0 g q i f.distinct h)

  array_own : array_of (get_or q i no_sleeper).process q ≡ (get_or q i no_sleeper).array
  array_own = of_own [] (λ (s : Sleeper). s.array) q i f.distinct h

  module _ (r : Row) where
    -- what stands by its process
    pub slot_read : get_or (with_queue r q sleeps_at) (entry (get_or q i no_sleeper).process) 0 ≡ (get_or q i no_sleeper).slot
    slot_read = kept_read the_slot

    pub size_read : get_or (with_queue r q sizes) (entry (get_or q i no_sleeper).process) 0 ≡ length (get_or q i no_sleeper).array
    size_read = kept_read the_size

    pub wait_read : wait_of (get_or (with_queue r q waits) (entry (get_or q i no_sleeper).process) 0) ≡ (get_or q i no_sleeper).wait
    wait_read = ap wait_of (kept_read the_wait) ∙ wait_back sleeper.wait

    pub array_read_back : array_in (with_queue r q) (get_or q i no_sleeper).process ≡ (get_or q i no_sleeper).array
    unfolding array_in
    array_read_back =
        let short : length (array_of sleeper.process q) ≤ array_bytes = rw array_own room_at.short in
        let e : length sleeper.array ≡ length (array_of sleeper.process q) = ap length (sym array_own) in
        rw (size_read, entry_is sleeper.process room_at.process, e)
        (array_read q sleeper.process room_at.process room_at.last short ∙ array_own)

    pub sleeper_read : sleeper_in (with_queue r q) (get_or q i no_sleeper).process ≡ get_or q i no_sleeper
    sleeper_read = rw (array_read_back, wait_read) (simp kept_read)

  -- .. once it is taken out
  others : Awake (get_or q i no_sleeper).process (without q i)
  others = others_without q i h f.distinct

  by_out : (g : Sleeper → ℕ) → set (by_process g processes 1 q) (entry (get_or q i no_sleeper).process) 0 ≡ by_process g processes 1 (without q i)
  by_out g =
      rw (entry_is sleeper.process room_at.process)
      (by_changed g q sleeper.process room_at.process room_at.last 0 (without q i) (of_none 0 g sleeper.process (without q i) others) (λ j n. sym (of_without 0 g j q i n)))

  arrays_out : {n : ℕ} → n ≡ length (get_or q i no_sleeper).array
      → sets (blocks_from processes 1 q) (array_bytes * entry (get_or q i no_sleeper).process) (replicate n 0) ≡ blocks_from processes 1 (without q i)
  arrays_out {n} e =
      let p = sleeper.process in
      let own : n ≡ length (array_of p q) = e ∙ ap length (sym array_own) in
      let short : n ≤ array_bytes = rw e room_at.short in
      let fits : array_bytes * (p - 1) + n ≤ length (blocks_from processes 1 q) = omega (arith, length_arrays q, room_at.process, room_at.last, short) in
      rw (entry_is p room_at.process)
      (sets_paste (replicate n 0) (blocks_from processes 1 q) (array_bytes * (p - 1)) n (length-replicate {A = ℕ} n 0) fits
      ∙ ap (λ (m : ℕ). paste (blocks_from processes 1 q) (array_bytes * (p - 1)) (replicate m 0) m) own
      ∙ (arrays_cleared q p room_at.process room_at.last (without q i) (of_none [] (λ (s : Sleeper). s.array) p (without q i) others) (rw (← own) short) (λ j m. sym (of_without [] (λ (s : Sleeper). s.array) j q i m))))

  -- the writes that take it out
  abbrev pub emptied : Row → Row
  emptied r =
      let p = (get_or q i no_sleeper).process in
      with (put (with (with_entry kept p (λ (k : Kept). 0) r) order (without (r order) i ++ 0 ∷ [])) asleep 0 (length q - 1)) arrays
      (sets (r arrays) (array_bytes * entry p) (replicate (min array_bytes (get_or (r sizes) (entry p) 0)) 0))

  pub taken : (r : Row) → emptied (with_queue r q) ≡ with_queue r (without q i)
  taken r =
      by_groups _ _ refl refl refl refl
      (queue_parts_lem
      (ap (λ (n : ℕ). n ∷ []) (omega (arith, length_without q i h)))
      (order_without q i h f.few)
      (map_each kept (λ k. by_out k.of))
      (arrays_out (ap (min array_bytes) (size_read r) ∙ min-eq_right room_at.short)))

-- ---- one that joins

module _ (q : List Sleeper) (f : Queued q) (s : Sleeper) (a : Awake s.process q) (k : Room s) (l : length q < processes) where
  by_in : (g : Sleeper → ℕ) → set (by_process g processes 1 q) (entry s.process) (g s) ≡ by_process g processes 1 (q ++ s ∷ [])
  by_in g =
      rw (entry_is s.process k.process)
      (by_changed g q s.process k.process k.last (g s) (q ++ s ∷ []) (of_awake 0 g s.process q (s ∷ []) a ∙ of_first 0 g s) (λ j n. sym (of_before 0 g j q s n)))

  arrays_in : sets (blocks_from processes 1 q) (array_bytes * entry s.process) s.array ≡ blocks_from processes 1 (q ++ s ∷ [])
  arrays_in =
      let p = s.process in
      let fits : array_bytes * (p - 1) + length s.array ≤ length (blocks_from processes 1 q) = omega (arith, length_arrays q, k.process, k.last, k.short) in
      let e : array_of p (q ++ s ∷ []) ≡ s.array = of_awake [] (λ (x : Sleeper). x.array) p q (s ∷ []) a ∙ of_first [] (λ (x : Sleeper). x.array) s in
      rw (entry_is p k.process)
      (sets_paste s.array (blocks_from processes 1 q) (array_bytes * (p - 1)) (length s.array) refl fits
      ∙ subst (λ (y : List ℕ). paste (blocks_from processes 1 q) (array_bytes * (p - 1)) y (length y) ≡ blocks_from processes 1 (q ++ s ∷ [])) e
      (arrays_stored q p k.process k.last (q ++ s ∷ []) (of_none [] (λ (x : Sleeper). x.array) p q a) (rw e k.short) (λ j n. sym (of_before [] (λ (x : Sleeper). x.array) j q s n))))

  -- the writes that let it in
  abbrev pub joined_by : Row → Row
  joined_by r =
      put (put (with_entry kept s.process (λ (k : Kept). k.of s) (with r arrays (sets (r arrays) (array_bytes * entry s.process) (take array_bytes s.array)))) order (length q) s.process) asleep 0 (length q + 1)

  pub joined : (r : Row) → joined_by (with_queue r q) ≡ with_queue r (q ++ s ∷ [])
  joined r =
      by_groups _ _ refl refl refl refl
      (queue_parts_lem
      (ap (λ (n : ℕ). n ∷ []) (sym (length-append q (s ∷ []))))
      (order_joined q s l)
      (map_each kept (λ k. by_in k.of))
      (ap (λ (y : List ℕ). sets (blocks_from processes 1 q) (array_bytes * entry s.process) y) (take_all array_bytes s.array k.short) ∙ arrays_in))

-- ---- the queue that the row shows is the one that it was made of

pub queue_back : (r : Row) (q : List Sleeper) → Queued q → queue_in (with_queue r q) ≡ q
unfolding queue_in
queue_back r q f =
    ap (λ (l : List ℕ). map (sleeper_in (with_queue r q)) l) (order_first q)
    ∙ ext_get_or no_sleeper (map (sleeper_in (with_queue r q)) (map the_process q)) q same each
  where
    same : length (map (sleeper_in (with_queue r q)) (map the_process q)) ≡ length q
    same = length-map (map the_process q) (sleeper_in (with_queue r q)) ∙ length-map q the_process

    at : (xs : List ℕ) (i : ℕ) → i < length xs → get_or (map (sleeper_in (with_queue r q)) xs) i no_sleeper ≡ sleeper_in (with_queue r q) (get_or xs i 0)
    at [] i l = absurd (not-suc-le-zero l)
    at (x ∷ xs) zero l = refl
    at (x ∷ xs) (suc i) l = at xs i (le_of_suc-le-suc l)

    each : (i : ℕ) → i < length (map (sleeper_in (with_queue r q)) (map the_process q)) → get_or (map (sleeper_in (with_queue r q)) (map the_process q)) i no_sleeper ≡ get_or q i no_sleeper
    each i l =
        let g : i < length q = omega (arith, same) in
        at (map the_process q) i (omega (arith, length-map q the_process)) ∙ ap (sleeper_in (with_queue r q)) (get_or-map the_process q i no_sleeper) ∙ sleeper_read q f i g r
