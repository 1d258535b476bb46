-- The loops of the waking: what a round over the queue has shown at a position, and what holds where a round begins.
use Prim.Native.Nat.{ℕ, ◌+◌, ◌*◌, ◌≤◌, ◌<◌}
use native.Mathlib.Omega.{arith}
use mathlib.Core.Path.{◌≡◌, refl, sym, ◌∙◌, ap, subst}
use mathlib.Core.Bool.{Bool, true, false}
use lib.ListN.{length, get_or, drop}
use borrow.Author.Tests.{eq-eqb, ne_eqb}
use Rattle.model.specs.declared.Outcome.{Outcome}
use Rattle.model.specs.declared.Copies.{Copies}
use Rattle.model.specs.Limits.{processes}
use Rattle.model.specs.State.{no_sleeper}
use Rattle.model.specs.Judge.{finishes}
use Rattle.model.specs.Marks.{mine}
use Rattle.model.specs.Waking.{World, Ended, nobody, finished, could_finish, finish, plain_round}
use Rattle.model.specs.Invariant.{Calm}
use Rattle.model.proofs.Calm.{finish_calm}
use Rattle.model.proofs.WakingLaws.{plain_end, plain_other, plain_sleeps, plain_finishes, plain_over, plain_again, finish_length}
use Rattle.host.specs.Parts.{order, sleeps_at}
use Rattle.host.specs.Holding.{sets_in, entry, asleep_in}
use Rattle.service_waking.specs.Lent.{Lent, world_in, lent_with, Left, left_with, Ready, JudgedAs, plainly}
use Rattle.service_waking.proofs.LentLaws.{world_over, world_back, with_ready, asleep_all, asleep_few, within, the_slot_lem}

-- a rule's end in a world that was put in
pub left_over : (x : Lent) (w : World) (e : Ended) → left_with (lent_with x w) e ≡ left_with x e
left_over x w e = ap (λ (y : Lent). record { lent = y; looks = e.looks }) (world_over x w e.world)

-- where a round begins: what is lent is ready, and the looks leave room for every look to come
pub record Begun (l₀ : ℕ) (x : Lent) (l : ℕ) : Type 0 where
  pub ready : Ready x
  pub room : l + processes * asleep_in x.host.row ≤ l₀ + processes * processes

-- the first: nobody has been looked at
pub begun : (x : Lent) (l : ℕ) → Ready x → Begun l x l
begun x l r = record { ready = r; room = omega (arith, asleep_few x r) }

-- the sleeper at a position as the row has it
module _ (x : Lent) (r : Ready x) (slot i : ℕ) (h : i < asleep_in x.host.row) where
  pub mine_here : get_or (x.host.row sleeps_at) (entry (get_or (x.host.row order) i 0)) 0 ≡ slot → mine slot (get_or (world_in x).queue i no_sleeper) ≡ true
  unfolding mine
  mine_here e = eq-eqb _ _ (sym (the_slot_lem x r i h) ∙ e)

  pub other_here : (get_or (x.host.row sleeps_at) (entry (get_or (x.host.row order) i 0)) 0 ≡ slot → ⊥) → mine slot (get_or (world_in x).queue i no_sleeper) ≡ false
  unfolding mine
  other_here n = ne_eqb _ _ (λ e. n (the_slot_lem x r i h ∙ e))

  pub ends_here : {o : Outcome} {k : ℕ} {c : Copies} {b : Bool} → JudgedAs (world_in x).table (get_or (world_in x).queue i no_sleeper) o k c → finishes o ≡ b
      → could_finish (world_in x).table (get_or (world_in x).queue i no_sleeper) ≡ b
  ends_here j f = ap finishes (sym j.outcome) ∙ f

-- what is lent after the sleeper at i is finished
module _ (l₀ : ℕ) (x : Lent) (l i l' : ℕ) (b : Begun l₀ x l) (h : i < asleep_in x.host.row) (few : l' ≤ l + processes) where
  calm : Calm (sets_in x.host.row) (finish (world_in x) i)
  calm = finish_calm (world_in x) i b.ready.calm (within x b.ready i h)

  pub world_next : world_in (lent_with x (finish (world_in x) i)) ≡ finish (world_in x) i
  world_next = world_back x (sets_in x.host.row) (finish (world_in x) i) calm

  ready_next : Ready (lent_with x (finish (world_in x) i))
  ready_next = with_ready x (finish (world_in x) i) b.ready.counts calm

  asleep_next : asleep_in (lent_with x (finish (world_in x) i)).host.row + 1 ≡ asleep_in x.host.row
  asleep_next =
      let a : asleep_in (lent_with x (finish (world_in x) i)).host.row ≡ length (finish (world_in x) i).queue = asleep_all _ ready_next ∙ ap (λ (w : World). length w.queue) world_next in
      omega (arith, a, asleep_all x b.ready, finish_length (world_in x) i (within x b.ready i h))

  pub begun_next : Begun l₀ (lent_with x (finish (world_in x) i)) l'
  begun_next = record { ready = ready_next; room = omega (arith, asleep_next, b.room) }

  -- a new round begins: with fewer sleepers, and what the rule gives from there is what it gave
  pub record Again (rule' rule : Lent → ℕ → Left) (x' : Lent) : Type 0 where
    pub begins : Begun l₀ x' l'
    pub fewer : asleep_in x'.host.row < asleep_in x.host.row
    pub same : rule' x' l' ≡ rule x l

  pub again : (rule' rule : Lent → ℕ → Left) {x' : Lent} → x' ≡ lent_with x (finish (world_in x) i) → rule' (lent_with x (finish (world_in x) i)) l' ≡ rule x l → Again rule' rule x'
  again rule' rule {x'} e s = subst (Again rule' rule) (sym e) (record { begins = begun_next; fewer = omega (arith, asleep_next); same = s })

-- ---- the plain rule

-- a round of the plain rule over x, that began with the looks l₀, has come to position i with l looks
pub record PlainTurn (slot : ℕ) (x : Lent) (l₀ i l : ℕ) : Type 0 where
  pub within : i ≤ asleep_in x.host.row
  pub looks : l ≤ l₀ + i
  pub round : plain_round (world_in x).table slot (drop i (world_in x).queue) i l 0 ≡ plain_round (world_in x).table slot (world_in x).queue 0 l₀ 0

pub plain_first : (slot : ℕ) (x : Lent) (l₀ : ℕ) → PlainTurn slot x l₀ 0 l₀
plain_first slot x l₀ = record { within = omega arith; looks = omega arith; round = refl }

module _ (slot : ℕ) (x : Lent) (r : Ready x) (l₀ i l : ℕ) (t : PlainTurn slot x l₀ i l) where
  module _ (h : i < asleep_in x.host.row) where
    pub plain_skips : (get_or (x.host.row sleeps_at) (entry (get_or (x.host.row order) i 0)) 0 ≡ slot → ⊥) → PlainTurn slot x l₀ (i + 1) l
    plain_skips n = record {
      within = omega (arith, h);
      looks = omega (arith, t.looks);
      round = sym (plain_other (world_in x).table slot (world_in x).queue i l 0 (within x r i h) (other_here x r slot i h n)) ∙ t.round;
    }

    module _ (e : get_or (x.host.row sleeps_at) (entry (get_or (x.host.row order) i 0)) 0 ≡ slot) {o : Outcome} {k : ℕ} {c : Copies} (j : JudgedAs (world_in x).table (get_or (world_in x).queue i no_sleeper) o k c) where
      pub plain_goes_on : finishes o ≡ false → PlainTurn slot x l₀ (i + 1) (l + 1)
      plain_goes_on f = record {
        within = omega (arith, h);
        looks = omega (arith, t.looks);
        round = sym (plain_sleeps (world_in x).table slot (world_in x).queue i l 0 (within x r i h) (mine_here x r slot i h e) (ends_here x r slot i h j f)) ∙ t.round;
      }

      plain_few : l + 1 ≤ l₀ + processes
      plain_few = omega (arith, t.looks, h, asleep_few x r)

      -- the round finishes this sleeper, and the rule goes on with what that leaves
      pub plain_again_here : (l₁ : ℕ) {x' : Lent} (b : Begun l₁ x l₀) → finishes o ≡ true → x' ≡ lent_with x (finish (world_in x) i)
          → Again l₁ x l₀ i (l + 1) b h (omega (arith, t.looks, h, asleep_few x r)) (plainly slot) (plainly slot) x'
      plain_again_here l₁ b f q =
          let found : plain_round (world_in x).table slot (world_in x).queue 0 l₀ 0 ≡ finished i (l + 1) 0 =
          sym t.round ∙ plain_finishes (world_in x).table slot (world_in x).queue i l 0 (within x r i h) (mine_here x r slot i h e) (ends_here x r slot i h j f) in
          again l₁ x l₀ i (l + 1) b h _ _ _ q
          (rw (world_next l₁ x l₀ i (l + 1) b h plain_few)
          (left_over x (finish (world_in x) i) _ ∙ ap (left_with x) (sym (plain_again slot (world_in x) l₀ i (l + 1) (within x r i h) 0 found))))

  -- the round is over, and with it the rule
  pub plain_done : asleep_in x.host.row ≤ i → record { lent = x; looks = l } ≡ plainly slot x l₀
  plain_done h =
      let over : plain_round (world_in x).table slot (world_in x).queue 0 l₀ 0 ≡ nobody l 0 = sym t.round ∙ plain_end (world_in x).table slot (world_in x).queue i l 0 (omega (arith, asleep_all x r)) in
      rw (plain_over slot (world_in x) l₀ l 0 over) (ap (λ (y : Lent). record { lent = y; looks = l }) r.holds)
