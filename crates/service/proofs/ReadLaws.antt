-- The numbers that a reading shows, one semaphore at a time, as a loop writes them; and as they are read back.
use Rattle.std.proofs.Common.{◌≡◌, ℕ, zero, suc, ◌+◌, ◌-◌, ◌*◌, ◌<◌, ◌≤◌, List, [], ◌∷◌, length, get_or, set, ℤ, sym, refl, ap, ◌∙◌, ap₂, arith}
use lib.Seq.{sets}
use Rattle.model.specs.declared.QueriedSet.{QueriedSet}
use Rattle.model.specs.declared.Reading.{Reading}
use Rattle.model.specs.Limits.{semaphores}
use Rattle.model.specs.Checks.{slot_of, check_read_all}
use Rattle.model.specs.Events.{Read, numbers_of, do_read_all}
use Rattle.model.specs.WholeSet.{shown_at, set_checked, query_set, reads_from}
use Rattle.model.proofs.WholeSetLaws.{set_as_read}
use Rattle.host.specs.Holding.{Host, state_in, Held}
use Rattle.service.specs.After.{read_out}
use Rattle.service.proofs.EventLaws.{held_counts}

-- three for each
pub length_numbers : (rs : List Read) → length (numbers_of rs) ≡ 3 * length rs
unfolding numbers_of
length_numbers [] = refl
length_numbers (r ∷ rs) = omega (arith, length_numbers rs)

module _ (values increase zeros : List ℕ) where
  pub length_reads : (k n : ℕ) → length (reads_from values increase zeros k n) ≡ n
  unfolding reads_from
  length_reads k zero = refl
  length_reads k (suc n) = ap suc (length_reads (k + 1) n)

  -- what is left to write behind the first n of count semaphores
  abbrev pub numbers_left : ℕ → ℕ → List ℕ
  numbers_left count n = numbers_of (reads_from values increase zeros n (count - n))

  pub numbers_all : (count : ℕ) (l : List ℕ) → sets l (3 * 0) (numbers_left count 0) ≡ sets l 0 (numbers_of (reads_from values increase zeros 0 count))
  numbers_all count l = let e : count - 0 ≡ count = omega arith in rw e

  -- one semaphore more
  pub numbers_more : (count n : ℕ) (l : List ℕ) → n < count
      → sets (set (set (set l (3 * n) (get_or values n 0)) (3 * n + 1) (get_or increase n 0)) (3 * n + 2) (get_or zeros n 0)) (3 * (n + 1)) (numbers_left count (n + 1)) ≡ sets l (3 * n) (numbers_left count n)
  unfolding numbers_of reads_from
  numbers_more count n l h =
      let e : count - n ≡ suc (count - (n + 1)) = omega arith in
      let a : 3 * n + 1 ≡ suc (3 * n) = omega arith in
      let b : 3 * n + 2 ≡ suc (suc (3 * n)) = omega arith in
      let c : 3 * (n + 1) ≡ suc (suc (suc (3 * n))) = omega arith in
      rw (e, a, b, c)

  pub numbers_end : (count n : ℕ) (l : List ℕ) → count ≤ n → sets l (3 * n) (numbers_left count n) ≡ l
  unfolding numbers_of reads_from
  numbers_end count n l h = let e : count - n ≡ 0 = omega arith in rw e

-- ---- of a host that holds a state

module _ (x : Host) (k : Held x) (p : ℕ) (i : ℤ) where
  -- a whole set has at most eight semaphores
  few_shown : (query_set (state_in x) p i).count ≤ semaphores
  unfolding query_set shown_at
  few_shown = go (check_read_all (state_in x) p i)
    where
      go : (code : ℕ) → (set_checked code (shown_at (state_in x) (slot_of i))).count ≤ semaphores
      go zero = held_counts x k (slot_of i)
      go (suc code) = omega arith

  -- .. and so has a reading
  pub few_all : length (do_read_all (state_in x) p i).answer.all ≤ semaphores
  few_all =
      let q = query_set (state_in x) p i in
      omega (arith, few_shown, ap length (set_as_read (state_in x) k.reached p i).all, length_reads q.values q.increase q.zero 0 q.count)

  module _ {shown : QueriedSet} (e : shown ≡ query_set (state_in x) p i) where
    pub few_read : shown.count ≤ semaphores
    few_read = rw e few_shown

    -- the reading is what is read off it
    pub read_out_lem : (numbers : List ℕ) {left : List ℕ} → left ≡ sets numbers 0 (numbers_of (reads_from shown.values shown.increase shown.zero 0 shown.count))
        → (record { code = shown.code; count = shown.count }, left) ≡ read_out numbers (do_read_all (state_in x) p i)
    read_out_lem numbers {left} el =
        let a = set_as_read (state_in x) k.reached p i in
        let all : (do_read_all (state_in x) p i).answer.all ≡ reads_from shown.values shown.increase shown.zero 0 shown.count = rw e a.all in
        let code : shown.code ≡ (do_read_all (state_in x) p i).answer.code = ap (λ (q : QueriedSet). q.code) e ∙ a.code in
        let count : shown.count ≡ length (do_read_all (state_in x) p i).answer.all = sym (ap length all ∙ length_reads shown.values shown.increase shown.zero 0 shown.count) in
        ap₂ (λ (q : Reading) (l : List ℕ). (q, l)) (ap₂ (λ (c : ℤ) (n : ℕ). record { code = c; count = n }) code count) (el ∙ ap (λ (rs : List Read). sets numbers 0 (numbers_of rs)) (sym all))
