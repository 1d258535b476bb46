-- The quick rule's loop: what a round has shown at a position, and the marks of a new one.
use Prim.Native.Nat.{ℕ, ◌+◌, ◌≤◌, ◌<◌}
use native.Mathlib.Omega.{arith}
use mathlib.Core.Path.{◌≡◌, refl, sym, ◌∙◌, ap, ap₂}
use mathlib.Core.Bool.{Bool, true, false, not}
use mathlib.Core.List.{List, [], ◌∷◌}
use lib.Bits.{bit_and, bit_xor}
use lib.ListN.{get_or, drop}
use borrow.Author.Tests.{eq-eqb, ne_eqb}
use Rattle.model.specs.declared.Outcome.{Outcome}
use Rattle.model.specs.declared.Copies.{Copies}
use Rattle.model.specs.Limits.{processes}
use Rattle.model.specs.State.{Table, Sleeper, no_sleeper}
use Rattle.model.specs.Judge.{finishes}
use Rattle.model.specs.Look.{values_of}
use Rattle.model.specs.Marks.{mine, marked, unmark, bit_of, mark_touched, differing}
use Rattle.model.specs.Waking.{World, nobody, finished, finish, quick_round, remark}
use Rattle.model.proofs.WakingLaws.{quick_end, quick_other, quick_unmarked, quick_sleeps, quick_finishes, quick_over, quick_again}
use Rattle.host.specs.Parts.{order, sleeps_at}
use Rattle.host.specs.Holding.{entry, asleep_in, queue_in, table_in}
use Rattle.service_waking.specs.Lent.{Lent, world_in, lent_with, left_with, Ready, JudgedAs, quickly}
use Rattle.service_waking.proofs.LentLaws.{world_queue, world_table, asleep_all, asleep_few, within, the_process_lem}
use Rattle.service_waking.proofs.WakingLoops.{Begun, Again, again, left_over, mine_here, other_here, ends_here, world_next}

-- ---- nobody is marked

unmarked : (s : Sleeper) → marked 0 s ≡ false
unfolding marked
unmarked s = refl

round_unmarked : (t : Table) (slot : ℕ) (q : List Sleeper) (i l : ℕ) → quick_round t slot q i l 0 ≡ nobody l 0
unfolding quick_round
round_unmarked t slot [] i l = refl
round_unmarked t slot (s ∷ q) i l = go (mine slot s) refl (round_unmarked t slot q (i + 1) l)
  where
    go : (b : Bool) → mine slot s ≡ b → quick_round t slot q (i + 1) l 0 ≡ nobody l 0 → quick_round t slot (s ∷ q) i l 0 ≡ nobody l 0
    go true e r = rw (quick_round, e, unmarked s) r
    go false e r = rw (quick_round, e) r

-- the quick rule without marks leaves everything
pub quick_nobody : (slot : ℕ) (x : Lent) (l : ℕ) → Ready x → record { lent = x; looks = l } ≡ quickly slot 0 x l
quick_nobody slot x l r =
    rw (quick_over slot (world_in x) l 0 l 0 (round_unmarked (world_in x).table slot (world_in x).queue 0 l)) (ap (λ (y : Lent). record { lent = y; looks = l }) r.holds)

-- ---- a round

-- a round of the quick rule over x, that began with the looks l₀ and the marks m₀, has come to position i with l looks and
-- the marks m
pub record QuickTurn (slot : ℕ) (x : Lent) (l₀ m₀ i l m : ℕ) : Type 0 where
  pub within : i ≤ asleep_in x.host.row
  pub looks : l ≤ l₀ + i
  pub round : quick_round (world_in x).table slot (drop i (world_in x).queue) i l m ≡ quick_round (world_in x).table slot (world_in x).queue 0 l₀ m₀

pub quick_first : (slot : ℕ) (x : Lent) (l₀ m₀ : ℕ) → QuickTurn slot x l₀ m₀ 0 l₀ m₀
quick_first slot x l₀ m₀ = record { within = omega arith; looks = omega arith; round = refl }

module _ (slot : ℕ) (x : Lent) (r : Ready x) (l₀ m₀ i l m : ℕ) (t : QuickTurn slot x l₀ m₀ i l m) where
  module _ (h : i < asleep_in x.host.row) where
    pub quick_skips : (get_or (x.host.row sleeps_at) (entry (get_or (x.host.row order) i 0)) 0 ≡ slot → ⊥) → QuickTurn slot x l₀ m₀ (i + 1) l m
    quick_skips n = record {
      within = omega (arith, h);
      looks = omega (arith, t.looks);
      round = sym (quick_other (world_in x).table slot (world_in x).queue i l m (within x r i h) (other_here x r slot i h n)) ∙ t.round;
    }

    module _ (bit : ℕ) (eb : bit ≡ bit_of (get_or (x.host.row order) i 0)) where
      bit_here : bit ≡ bit_of (get_or (world_in x).queue i no_sleeper).process
      bit_here = eb ∙ ap bit_of (the_process_lem x r i h)

      unmark_here : bit_xor m bit ≡ unmark m (get_or (world_in x).queue i no_sleeper)
      unfolding unmark
      unmark_here = ap (bit_xor m) bit_here

      pub quick_passes : bit_and m bit ≡ 0 → QuickTurn slot x l₀ m₀ (i + 1) l m
      unfolding marked
      quick_passes z =
          let off : bit_and m (bit_of (get_or (world_in x).queue i no_sleeper).process) ≡ 0 = rw bit_here at z in
          record {
            within = omega (arith, h);
            looks = omega (arith, t.looks);
            round = sym (quick_unmarked (world_in x).table slot (world_in x).queue i l m (within x r i h) (ap not (eq-eqb _ 0 off))) ∙ t.round;
          }

      module _ (on : bit_and m bit ≡ 0 → ⊥) (e : get_or (x.host.row sleeps_at) (entry (get_or (x.host.row order) i 0)) 0 ≡ slot)
          {o : Outcome} {k : ℕ} {c : Copies} (j : JudgedAs (world_in x).table (get_or (world_in x).queue i no_sleeper) o k c) where
        marked_here : marked m (get_or (world_in x).queue i no_sleeper) ≡ true
        unfolding marked
        marked_here = ap not (ne_eqb _ 0 (λ z. on (ap (bit_and m) bit_here ∙ z)))

        pub quick_goes_on : finishes o ≡ false → QuickTurn slot x l₀ m₀ (i + 1) (l + 1) (bit_xor m bit)
        quick_goes_on f = record {
          within = omega (arith, h);
          looks = omega (arith, t.looks);
          round = rw unmark_here
              (sym (quick_sleeps (world_in x).table slot (world_in x).queue i l m (within x r i h) (mine_here x r slot i h e) marked_here (ends_here x r slot i h j f)) ∙ t.round);
        }

        pub quick_few : l + 1 ≤ l₀ + processes
        quick_few = omega (arith, t.looks, h, asleep_few x r)

        -- the round finishes this sleeper, and the rule goes on with what that leaves, and with new marks
        pub quick_again_here : (l₁ : ℕ) {x' : Lent} (b : Begun l₁ x l₀) → finishes o ≡ true → x' ≡ lent_with x (finish (world_in x) i)
            → (before after : List ℕ) → before ≡ values_of (table_in x.host) slot → after ≡ values_of (table_in x'.host) slot
            → (marks : ℕ) → marks ≡ mark_touched slot (differing 0 0 before after) (bit_xor m bit) (queue_in x'.host.row)
            → Again l₁ x l₀ i (l + 1) b h quick_few (quickly slot marks) (quickly slot m₀) x'
        quick_again_here l₁ {x'} b f q before after eb ea marks em =
            let w : World = finish (world_in x) i in
            let found : quick_round (world_in x).table slot (world_in x).queue 0 l₀ m₀ ≡ finished i (l + 1) (unmark m (get_or (world_in x).queue i no_sleeper)) =
            sym t.round ∙ quick_finishes (world_in x).table slot (world_in x).queue i l m (within x r i h) (mine_here x r slot i h e) marked_here (ends_here x r slot i h j f) in
            let next : world_in (lent_with x w) ≡ w = world_next l₁ x l₀ i (l + 1) b h quick_few in
            let world : world_in x' ≡ w = ap world_in q ∙ next in
            let touched : differing 0 0 before after ≡ differing 0 0 (values_of (world_in x).table slot) (values_of w.table slot) =
            ap₂ (differing 0 0) (eb ∙ ap (λ (k : Table). values_of k slot) (sym (world_table x))) (ea ∙ ap (λ (k : Table). values_of k slot) (sym (world_table x')) ∙ ap (λ (v : World). values_of v.table slot) world) in
            let marks-are : marks ≡ remark slot (world_in x) w (unmark m (get_or (world_in x).queue i no_sleeper)) =
            em ∙ ap (λ (p : List Sleeper). mark_touched slot (differing 0 0 before after) (bit_xor m bit) p) (sym (world_queue x') ∙ ap (λ (v : World). v.queue) world)
            ∙ ap₂ (λ (d y : ℕ). mark_touched slot d y w.queue) touched unmark_here in
            again l₁ x l₀ i (l + 1) b h quick_few _ _ q
            (rw (next, marks-are)
            (left_over x w _ ∙ ap (left_with x) (sym (quick_again slot (world_in x) l₀ i (l + 1) (within x r i h) m₀ _ found))))

  -- the round is over, and with it the rule
  ended : (m' : ℕ) → quick_round (world_in x).table slot (drop i (world_in x).queue) i l m ≡ nobody l m' → record { lent = x; looks = l } ≡ quickly slot m₀ x l₀
  ended m' e = rw (quick_over slot (world_in x) l₀ m₀ l m' (sym t.round ∙ e)) (ap (λ (y : Lent). record { lent = y; looks = l }) r.holds)

  pub quick_done : asleep_in x.host.row ≤ i → record { lent = x; looks = l } ≡ quickly slot m₀ x l₀
  quick_done h = ended m (quick_end (world_in x).table slot (world_in x).queue i l m (omega (arith, asleep_all x r)))

  -- no mark is left
  pub quick_spent : m ≡ 0 → record { lent = x; looks = l } ≡ quickly slot m₀ x l₀
  quick_spent z = ended 0 (rw z (round_unmarked (world_in x).table slot (drop i (world_in x).queue) i l))
