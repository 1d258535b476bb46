-- The mask of two rows of values, and the loops over processes that put adjustments to 0.
use Prim.Native.Nat.{ℕ, suc, ◌+◌, ◌*◌, ◌%◌, ◌^◌, ◌≤◌, ◌<◌}
use native.Mathlib.Nat.{one-mul, mod-eq_of_lt}
use native.Mathlib.Numerals.{add-one}
use native.Mathlib.Omega.{arith}
use mathlib.Core.Path.{◌≡◌, refl, ap, ◌∙◌}
use mathlib.Core.Bool.{cond}
use mathlib.Core.List.{List}
use lib.Bits.{bit_or}
use lib.Dec.{eqb}
use lib.IntN.{ℤ, pos}
use lib.ListN.{length, drop, set, get_or, replicate, drop_of_length-le}
use lib.Pow.{pow-lt}
use lib.Seq.{sets, length-sets, drop-cons}
use Rattle.model.specs.Limits.{slots, semaphores, processes, all_semaphores, all_adjustments}
use Rattle.model.specs.State.{row, undo_row, clear_rows}
use Rattle.model.specs.Marks.{differing}
use Rattle.model.specs.Events.{clear_number}
use Rattle.host.specs.Rows.{undo_at}
use Rattle.host.proofs.RowLaws.{sets_paste}
use Rattle.host.proofs.SleeperLaws.{undo_at_lem}
use Rattle.service_table.specs.Numbered.{IsSlot}

-- `1u8 << i`
pub bit_of_lem : (i : ℕ) → i < 8 → 1 * 2 ^ i % 256 ≡ 2 ^ i
bit_of_lem i h = rw one-mul (mod-eq_of_lt (pow-lt {i = i} {j = 8} h))

-- the mask, from a number on: one number more, and none left
pub differing_more : (m i : ℕ) (xs ys : List ℕ) → i < length xs → i < length ys
    → differing m i (drop i xs) (drop i ys) ≡ differing (cond (eqb (get_or xs i 0) (get_or ys i 0)) m (bit_or m (2 ^ i))) (i + 1) (drop (i + 1) xs) (drop (i + 1) ys)
unfolding differing
differing_more m i xs ys hx hy = rw (drop-cons xs i 0 hx, drop-cons ys i 0 hy, ← add-one i)

pub differing_end : (m i : ℕ) (xs ys : List ℕ) → length xs ≤ i → differing m i (drop i xs) ys ≡ m
unfolding differing
differing_end m i xs ys h = rw (drop_of_length-le xs {i = i} h)

-- the adjustments of the first n processes for a slot are 0
pub record Clearing (a₀ : List ℤ) (slot : ℕ) (a : List ℤ) (n : ℕ) : Type 0 where
  pub within : n ≤ processes
  pub long : length a ≡ all_adjustments
  pub same : a ≡ clear_rows n slot a₀

pub clear_none : (a : List ℤ) (slot : ℕ) → length a ≡ all_adjustments → Clearing a slot a 0
unfolding clear_rows
clear_none a slot e = record { within = omega arith; long = e; same = refl }

pub clear_more : {a₀ a : List ℤ} {slot n : ℕ} (a' : List ℤ) → Clearing a₀ slot a n → IsSlot slot → n < processes → a' ≡ sets a (undo_at (n + 1) slot) (replicate semaphores (pos 0))
    → Clearing a₀ slot a' (n + 1)
unfolding clear_rows
clear_more {a₀} {a} {slot} {n} a' h k l e =
    let hk : slot < slots = k in
    record {
      within = omega arith;
      long = ap length e ∙ length-sets a (undo_at (n + 1) slot) (replicate semaphores (pos 0)) ∙ h.long;
      same =
          e
          ∙ ap (λ (i : ℕ). sets a i (replicate semaphores (pos 0))) (undo_at_lem (n + 1) slot (omega arith) (omega arith) k)
          ∙ sets_paste (replicate semaphores (pos 0)) a (undo_row (n + 1) slot) semaphores refl (omega (arith, h.long))
          ∙ rw (h.same, add-one);
    }

pub clear_all : {a₀ a : List ℤ} {slot n : ℕ} → Clearing a₀ slot a n → processes ≤ n → a ≡ clear_rows processes slot a₀
clear_all {a₀} {a} {slot} {n} h k =
    let e : n ≡ processes = omega (arith, h.within) in
    rw e at h.same

-- the adjustments of one process more at 0, for a semaphore
pub clear_number_more : (n slot number : ℕ) (a₀ a a' : List ℤ) → a ≡ clear_number n slot number a₀ → a' ≡ set a (n * all_semaphores + (row slot + number)) (pos 0)
    → a' ≡ clear_number (n + 1) slot number a₀
unfolding clear_number
clear_number_more n slot number a₀ a a' e f =
    let i : undo_row (suc n) slot + number ≡ n * 32 + (slot * 8 + number) = omega arith in
    f ∙ rw (e, add-one, i)
