-- A whole set: what a query of each of its semaphores shows, and how many arrays are judged for that. "The reviewer's screen
-- asks for every semaphore's counts."
use Rattle.std.specs.Prelude.{ℕ, zero, suc, ◌+◌, ◌≡◌, List, [], ◌∷◌, get_or, replicate, ℤ, pos}
use Rattle.model.specs.declared.QueriedSet.{QueriedSet}
use Rattle.model.specs.Limits.{semaphores}
use Rattle.model.specs.State.{State, row, no_set}
use Rattle.model.specs.Checks.{slot_of, check_read_all}
use Rattle.model.specs.Counts.{judged_at}
use Rattle.model.specs.Events.{Read, Answer, seen_at}

-- a number for each of n semaphores, from the k-th on
unfoldable pub each_from : (ℕ → ℕ) → ℕ → ℕ → List ℕ
each_from f k zero = []
each_from f k (suc n) = f k ∷ each_from f (k + 1) n

abbrev pub each : (ℕ → ℕ) → List ℕ
each f = each_from f 0 semaphores

-- the set in a slot: at each number what a query of that semaphore shows
unfoldable pub shown_at : State → ℕ → QueriedSet
shown_at s slot =
    record {
      code = pos 0;
      count = (get_or s.sets slot no_set).count;
      judged = judged_at slot s.queue;
      values = each (λ (n : ℕ). get_or s.table.values (row slot + n) 0);
      lasts = each (λ (n : ℕ). (seen_at s slot n).last);
      increase = each (λ (n : ℕ). (seen_at s slot n).increase);
      zero = each (λ (n : ℕ). (seen_at s slot n).zero);
      increase_masks = each (λ (n : ℕ). (seen_at s slot n).increase_mask);
      zero_masks = each (λ (n : ℕ). (seen_at s slot n).zero_mask);
    }

abbrev noughts : List ℕ
noughts = replicate semaphores 0

-- refused: nobody is judged, and every number is 0
abbrev pub set_refused : ℕ → QueriedSet
set_refused code =
    record {
      code = pos code;
      count = 0;
      judged = 0;
      values = noughts;
      lasts = noughts;
      increase = noughts;
      zero = noughts;
      increase_masks = noughts;
      zero_masks = noughts;
    }

-- refused with the code of its check, else what it shows
abbrev pub set_checked : ℕ → QueriedSet → QueriedSet
set_checked zero shown = shown
set_checked (suc code) shown = set_refused (suc code)

unfoldable pub query_set : State → ℕ → ℤ → QueriedSet
query_set s p i = set_checked (check_read_all s p i) (shown_at s (slot_of i))

-- ---- what is claimed of it

-- at a number it shows what an answer has
pub record AsQueried (a : Answer) (shown : QueriedSet) (n : ℕ) : Type 0 where
  pub code : shown.code ≡ a.code
  pub value : get_or shown.values n 0 ≡ a.value
  pub last : get_or shown.lasts n 0 ≡ a.seen.last
  pub increase : get_or shown.increase n 0 ≡ a.seen.increase
  pub zero : get_or shown.zero n 0 ≡ a.seen.zero
  pub increase_mask : get_or shown.increase_masks n 0 ≡ a.seen.increase_mask
  pub zero_mask : get_or shown.zero_masks n 0 ≡ a.seen.zero_mask

-- what is read of n semaphores, from the k-th on, off their values and how many wait at each for an increase and for zero
unfoldable pub reads_from : List ℕ → List ℕ → List ℕ → ℕ → ℕ → List Read
reads_from values increase zeros k zero = []
reads_from values increase zeros k (suc n) = record { value = get_or values k 0; increase = get_or increase k 0; zero = get_or zeros k 0 } ∷ reads_from values increase zeros (k + 1) n

-- it shows what a reading answers
pub record AsRead (a : Answer) (shown : QueriedSet) : Type 0 where
  pub code : shown.code ≡ a.code
  pub all : a.all ≡ reads_from shown.values shown.increase shown.zero 0 shown.count

-- the sum of numbers
unfoldable pub total : List ℕ → ℕ
total [] = 0
total (n ∷ l) = n + total l
