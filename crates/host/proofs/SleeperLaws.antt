-- Parts whose numbers are bytes: one of them, one after the other, several in a loop, and a stretch of them in place; and
-- where adjustments begin.
use Rattle.std.proofs.Common.{◌≡◌, ℕ, zero, suc, ◌+◌, ◌-◌, ◌*◌, ◌%◌, ◌^◌, ◌<◌, ◌≤◌, min, Bool, true, false, cond, ◌||◌, eqb, leb, List, [], ◌∷◌, length, get_or, take, drop, set, replicate, sym, refl, ap, ◌∙◌, subst, ap₂, ⊎_elim, arith, length-set, drop_of_length-le, take_all, drop-cons, take-take, drop-drop, le-ltb, ne_eqb}
use native.Mathlib.Nat.{min-eq_left, min-eq_right}
use borrow.Author.Tests.{lt-leb}
use lib.Seq.{sets}
use Rattle.std.proofs.lemmas.List.{drop-take}
use Rattle.std.proofs.lemmas.Bool.{lt-ltb, le-leb}
use Rattle.model.specs.Limits.{slots, processes, array_bytes, all_semaphores, all_adjustments}
use Rattle.model.specs.State.{row, undo_row}
use Rattle.model.specs.Checks.{no_process}
use Rattle.host.specs.Parts.{Part, arrays, place, host_bytes, number_at, bytes_of, numbers_from, Row, row_in, with, put}
use Rattle.host.specs.Rows.{undo_at}
use Rattle.host.specs.Holding.{entry, room_in}
use Rattle.host.proofs.Numbers.{one_byte}
use Rattle.host.proofs.PartLaws.{width, count, spot, inside, less_or_not, length_part, read_part, write_part, with_again, with_same, with_here}
use Rattle.host.proofs.RowLaws.{sets_more, sets_beyond}

-- ---- one byte

module _ (p : Part) (i : ℕ) (h : List ℕ) (thin : width p ≡ 1) where
  there : spot p i ≡ (place p).at + i
  there = ap (λ (w : ℕ). (place p).at + w * i) thin ∙ (let e : 1 * i ≡ i = omega arith in ap (λ (n : ℕ). (place p).at + n) e)

  pub byte_read : i < count p → get_or (row_in h p) i 0 ≡ get_or h ((place p).at + i) 0
  byte_read l = read_part p i h l ∙ ap₂ (λ (w k : ℕ). number_at w h k) thin there ∙ one_byte h ((place p).at + i)

  pub byte_write : (x : ℕ) → length h ≡ host_bytes → i < count p → x < 256 → row_in (set h ((place p).at + i) x) ≡ put (row_in h) p i x
  unfolding bytes_of
  byte_write x long l m =
      let e : x % 256 ≡ x = omega arith in
      let b : bytes_of (width p) x ≡ x ∷ [] = ap (λ (w : ℕ). bytes_of w x) thin ∙ ap (λ (y : ℕ). y ∷ []) e in
      ap₂ (λ (k : ℕ) (vs : List ℕ). row_in (sets h k vs)) (sym there) (sym b) ∙ write_part p i x h long l (subst (λ (w : ℕ). x < 256 ^ w) (sym thin) (omega arith))

-- ---- several bytes, one behind the other

pub bytes_write : (p : Part) → width p ≡ 1 → (vs : List ℕ) (k : ℕ) (h : List ℕ) → length h ≡ host_bytes → k + length vs ≤ count p → ((i : ℕ) → i < length vs → get_or vs i 0 < 256)
    → row_in (sets h ((place p).at + k) vs) ≡ with (row_in h) p (sets (row_in h p) k vs)
bytes_write p thin [] k h long l small = with_same (row_in h) p
bytes_write p thin (v ∷ vs) k h long l small =
    let next : List ℕ = set h ((place p).at + k) v in
    let one : row_in next ≡ put (row_in h) p k v = byte_write p k h thin v long (omega arith) (small 0 (omega arith)) in
    let behind : suc ((place p).at + k) ≡ (place p).at + suc k = omega arith in
    ap (λ (m : ℕ). row_in (sets next m vs)) behind
    ∙ bytes_write p thin vs (suc k) next (length-set h ((place p).at + k) v ∙ long) (omega arith) (λ i m. small (suc i) (omega arith))
    ∙ ap (λ (r : Row). with r p (sets (r p) (suc k) vs)) one
    ∙ with_again (row_in h) p (set (row_in h p) k v) (sets (put (row_in h) p k v p) (suc k) vs)
    ∙ ap (λ (n : List ℕ). with (row_in h) p (sets n (suc k) vs)) (with_here (row_in h) p (set (row_in h p) k v))

-- ---- a loop that writes a part from a place on

-- the first j of the new numbers are written
pub record Writing (p : Part) (h₀ : List ℕ) (at : ℕ) (vs h : List ℕ) (j : ℕ) : Type 0 where
  pub within : j ≤ length vs
  pub long : length h ≡ host_bytes
  pub same : row_in h ≡ with (row_in h₀) p (sets (row_in h₀ p) at (take j vs))

module _ (p : Part) where
  pub write_none : (h : List ℕ) (at : ℕ) (vs : List ℕ) → length h ≡ host_bytes → Writing p h at vs h 0
  write_none h at vs long = record { within = omega arith; long = long; same = with_same (row_in h) p }

  module _ {h₀ vs h : List ℕ} {at j : ℕ} (w : Writing p h₀ at vs h j) where
    pub write_more : {h' : List ℕ} (x : ℕ) → j < length vs → x ≡ get_or vs j 0 → length h' ≡ length h → row_in h' ≡ put (row_in h) p (at + j) x → Writing p h₀ at vs h' (j + 1)
    write_more {h'} x l e long q =
        let m : List ℕ = sets (row_in h₀ p) at (take j vs) in
        record {
          within = omega arith;
          long = long ∙ w.long;
          same =
              q ∙ ap₂ (λ (r : Row) (v : ℕ). put r p (at + j) v) w.same e
              ∙ with_again (row_in h₀) p m (set (with (row_in h₀) p m p) (at + j) (get_or vs j 0))
              ∙ ap (λ (n : List ℕ). with (row_in h₀) p (set n (at + j) (get_or vs j 0))) (with_here (row_in h₀) p m)
              ∙ ap (λ (n : List ℕ). with (row_in h₀) p n) (sets_more vs (row_in h₀ p) at j 0 l);
        }

    pub write_all : length vs ≤ j → row_in h ≡ with (row_in h₀) p (sets (row_in h₀ p) at vs)
    write_all l = w.same ∙ ap (λ (n : List ℕ). with (row_in h₀) p (sets (row_in h₀ p) at n)) (take_all j vs l)

  -- they all lie beyond it
  pub write_away : (h : List ℕ) (at : ℕ) (vs : List ℕ) → count p ≤ at → row_in h ≡ with (row_in h) p (sets (row_in h p) at vs)
  write_away h at vs l = with_same (row_in h) p ∙ ap (λ (n : List ℕ). with (row_in h) p n) (sym (sets_beyond vs (row_in h p) at (omega (arith, length_part p h))))

-- ---- a stretch of them in place

numbers_bytes : (n at : ℕ) (h : List ℕ) → at + n ≤ length h → numbers_from 1 at n h ≡ take n (drop at h)
unfolding numbers_from
numbers_bytes zero at h l = refl
numbers_bytes (suc n) at h l =
    let e : suc at ≡ at + 1 = omega arith in
    rw (drop-cons h at 0 (omega arith), e) (ap₂ (λ (x : ℕ) (r : List ℕ). x ∷ r) (one_byte h at) (numbers_bytes n (at + 1) h (omega arith)))

module _ (p : Part) (h : List ℕ) (thin : width p ≡ 1) (long : length h ≡ host_bytes) where
  -- the bytes of the part are bytes of the row
  pub bytes_part : row_in h p ≡ take (count p) (drop (place p).at h)
  unfolding row_in
  bytes_part =
      ap (λ (w : ℕ). numbers_from w (place p).at (count p) h) thin
      ∙ numbers_bytes (count p) (place p).at h (omega (arith, subst (λ (w : ℕ). (place p).at + w * count p ≤ host_bytes) thin (inside p), long))

  -- so are some of them
  pub bytes_of_part : (k n : ℕ) → k + n ≤ count p → take n (drop k (row_in h p)) ≡ take n (drop ((place p).at + k) h)
  bytes_of_part k n l =
      let e : count p ≡ k + (count p - k) = omega arith in
      ap (λ (r : List ℕ). take n (drop k r)) (bytes_part ∙ ap (λ (m : ℕ). take m (drop (place p).at h)) e)
      ∙ ap (λ (r : List ℕ). take n r) (drop-take k (count p - k) (drop (place p).at h))
      ∙ take-take n (count p - k) (drop k (drop (place p).at h)) (omega arith)
      ∙ ap (λ (r : List ℕ). take n r) (drop-drop k (place p).at h)

-- as many of them as there are
pub take_there : (n : ℕ) (l : List ℕ) → take (min (length l) n) l ≡ take n l
take_there n l = ⊎_elim
    (λ a. ap (λ (k : ℕ). take k l) (min-eq_right (let b : n ≤ length l = omega arith in b)))
    (λ b. take_all (min (length l) n) l (omega (arith, min-eq_left b)) ∙ sym (take_all n l b))
    (less_or_not n (length l))

-- the room for a process's array, lent from the row, and none beyond the processes
module _ (h : List ℕ) (p : ℕ) where
  pub room_there : (at : ℕ) → length h ≡ host_bytes → entry p < processes → at ≡ (place arrays).at + array_bytes * entry p
      → take (at + array_bytes - at) (drop at h) ≡ room_in (row_in h) p
  room_there at long l e =
      let d : at + array_bytes - at ≡ array_bytes = omega arith in
      ap₂ (λ (k m : ℕ). take k (drop m h)) d e ∙ sym (bytes_of_part arrays h refl long (array_bytes * entry p) array_bytes (omega arith))

  pub room_none : processes ≤ entry p → [] ≡ room_in (row_in h) p
  room_none l = ap (λ (r : List ℕ). take array_bytes r) (sym (drop_of_length-le (row_in h arrays) {i = array_bytes * entry p} (omega (arith, length_part arrays h))))

pub zeros_at : (n j : ℕ) → ◌≡◌ {A = ℕ} 0 (get_or (replicate n 0) j 0)
zeros_at zero j = refl
zeros_at (suc n) zero = refl
zeros_at (suc n) (suc j) = zeros_at n j

-- ---- where adjustments begin

module _ (p slot : ℕ) where
  pub undo_at_lem : 1 ≤ p → p ≤ processes → slot < slots → undo_at p slot ≡ undo_row p slot
  unfolding undo_at no_process
  undo_at_lem some few l = rw (ne_eqb p 0 (λ (e : p ≡ 0). omega arith), le-ltb processes p few, lt-leb slots slot l)

-- by the entry of the process
pub undo_begins : (p slot : ℕ) → entry p < processes → slot < slots → entry p * all_semaphores + row slot ≡ undo_at p slot
undo_begins zero slot l m = absurd (omega arith)
undo_begins (suc p) slot l m = let e : suc p - 1 ≡ p = omega arith in sym (undo_at_lem (suc p) slot (omega arith) (omega arith) m ∙ ap (λ (i : ℕ). i * all_semaphores + row slot) e)

pub undo_nobody : (p slot : ℕ) → processes ≤ entry p → undo_at p slot ≡ all_adjustments
unfolding undo_at no_process
undo_nobody zero slot l = refl
undo_nobody (suc p) slot l = rw (lt-ltb processes (suc p) (omega arith)) (go (eqb (suc p) 0))
  where
    go : (b : Bool) → cond ((b || true) || leb slots slot) all_adjustments (undo_row (suc p) slot) ≡ all_adjustments
    go true = refl
    go false = refl

pub undo_nowhere : (p slot : ℕ) → slots ≤ slot → undo_at p slot ≡ all_adjustments
unfolding undo_at
undo_nowhere p slot l = rw (le-leb slots slot l) (go (no_process p))
  where
    go : (b : Bool) → cond (b || true) all_adjustments (undo_row p slot) ≡ all_adjustments
    go true = refl
    go false = refl
