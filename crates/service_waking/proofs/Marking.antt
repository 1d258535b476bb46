-- Marking by process: the mask gathered over the processes 1 to 8 is the mask gathered over the queue in its order.
use Prim.Native.Nat.{ℕ, ◌+◌, ◌*◌, ◌%◌, ◌^◌, ◌≤◌, ◌<◌}
use native.Mathlib.Omega.{arith}
use mathlib.Core.Path.{◌≡◌, refl, sym, ap, ap₂, ◌∙◌}
use mathlib.Core.Bool.{Bool, true, false, cond, ◌&&◌}
use mathlib.Core.List.{List, [], ◌∷◌}
use lib.Dec.{eqb}
use lib.Pow.{pow-lt}
use lib.Bits.{bit_and, bit_or}
use lib.ListN.{get_or}
use mir.Val.{bool_byte}
use Rattle.model.specs.Limits.{slots, processes}
use Rattle.model.specs.State.{Sleeper}
use Rattle.model.specs.Operation.{has_bit}
use Rattle.model.specs.Marks.{named, mine, concerned, mask_of, mark_touched}
use Rattle.host.specs.Parts.{Row, sleeps_at, names}
use Rattle.host.specs.Holding.{of_process, the_slot, entry, queue_in}
use Rattle.host.specs.Queue.{QueueHeld}
use Rattle.service_waking.proofs.ByProcess.{up_to, mask_start, mask_end, mask_next, by_next}

-- the bit of a process, if both tests hold
bit_if : (x y : Bool) (n : ℕ) → n < processes → bit_and (bool_byte x) (bool_byte y) * 2 ^ n % 256 ≡ cond (x && y) (2 ^ n) 0
bit_if true true n h = omega (arith, pow-lt {i = n} {j = processes} h)
bit_if true false n h = omega arith
bit_if false true n h = omega arith
bit_if false false n h = omega arith

-- ---- a sleeper is concerned by what stands at its process

of_tests : (slot touched p : ℕ) (q : List Sleeper) → of_process false (concerned slot touched) p q ≡ eqb (of_process 0 the_slot p q) slot && has_bit (of_process 0 named p q) touched
unfolding of_process mine
of_tests slot touched p [] = go (eqb 0 slot)
  where
    go : (b : Bool) → false ≡ b && false
    go true = refl
    go false = refl
of_tests slot touched p (s ∷ q) = go (eqb s.process p) (of_tests slot touched p q)
  where
    go : (b : Bool) → of_process false (concerned slot touched) p q ≡ eqb (of_process 0 the_slot p q) slot && has_bit (of_process 0 named p q) touched
        → cond b (concerned slot touched s) (of_process false (concerned slot touched) p q) ≡ eqb (cond b s.slot (of_process 0 the_slot p q)) slot && has_bit (cond b (named s) (of_process 0 named p q)) touched
    go true ih = refl
    go false ih = ih

-- ---- the loop: the sleepers of the processes to n are marked

pub record Marking (r : Row) (slot touched marks m n : ℕ) : Type 0 where
  pub within : n ≤ processes
  pub same : m ≡ mask_of (up_to (concerned slot touched) n) marks (queue_in r)

module _ {r : Row} (k : QueueHeld r) {slot touched marks : ℕ} where
  pub mark_none : Marking r slot touched marks marks 0
  mark_none =
      record {
        within = omega arith;
        same = sym (mask_start (concerned slot touched) marks k.fits.rooms);
      }

  pub mark_more : slot < slots → {m n at mask : ℕ} → Marking r slot touched marks m n → n < processes → at ≡ get_or (r sleeps_at) (entry (n + 1)) 0 → mask ≡ get_or (r names) (entry (n + 1)) 0
      → Marking r slot touched marks (bit_or m (bit_and (bool_byte (eqb at (slot % 256))) (bool_byte (has_bit mask touched)) * 2 ^ n % 256)) (n + 1)
  mark_more small {m} {n} {at} {mask} w l e f =
      let whole : slot % 256 ≡ slot = omega arith in
      let tests : eqb at slot && has_bit mask touched ≡ of_process false (concerned slot touched) (n + 1) (queue_in r) =
      ap₂ (λ (x y : ℕ). eqb x slot && has_bit y touched) (e ∙ by_next k sleeps_at the_slot n refl l) (f ∙ by_next k names named n refl l) ∙ sym (of_tests slot touched (n + 1) (queue_in r)) in
      record {
        within = omega arith;
        same =
            rw whole
            (ap₂ bit_or w.same (bit_if (eqb at slot) (has_bit mask touched) n l ∙ ap (λ (b : Bool). cond b (2 ^ n) 0) tests)
            ∙ sym (mask_next (concerned slot touched) n marks (queue_in r) k.fits.distinct));
      }

  pub mark_all : {m n : ℕ} → Marking r slot touched marks m n → processes ≤ n → m ≡ mark_touched slot touched marks (queue_in r)
  mark_all {m} {n} w l = w.same ∙ mask_end (concerned slot touched) n marks k.fits.rooms l
