-- What a walk has in common with `judge` of the model: the outcome, the position, and, if the array is done, the copies. It
-- keeps their lengths.
use mathlib.Core.Path.{◌≡◌, refl, sym, ◌∙◌, ap}
use mathlib.Core.List.{List, [], ◌∷◌}
use Prim.Native.Nat.{ℕ, ◌+◌}
use native.Mathlib.Omega.{arith}
use lib.ListN.{get_or, length-set}
use lib.IntN.{ℤ, pos}
use Rattle.model.specs.declared.Operation.{Operation}
use Rattle.model.specs.declared.Outcome.{Outcome}
use Rattle.model.specs.declared.Outcome.TheVariants.{Done, Sleep, Again, Range}
use Rattle.model.specs.declared.Copies.{Copies}
use Rattle.model.specs.declared.Judged.{Judged}
use Rattle.model.specs.Operation.{no_wait, with_undo}
use Rattle.model.specs.Judge.{next_value, next_adjustment, judged, undone, valued, step, go_on, judge_from, judge}
use Rattle.model.proofs.JudgeLaws.{SameSize, Agreed, either}
use Rattle.judging.specs.Walk.{or_else, walk_from}
use Rattle.std.specs.Prelude.{Option, Some, None, Ok, Err, Result}
use Rattle.model.specs.declared.Halt.{Halt}
use Rattle.model.specs.declared.Halt.TheVariants.{Over, Stop}

-- ---- one operation

-- it decides where it stands, and keeps the lengths
record Kept (c : Copies) (i : ℕ) (j : Judged) : Type 0 where
  position : j.position ≡ i
  sizes : SameSize j.copies c

module _ (c : Copies) (o : Operation) (i : ℕ) where
  stays : (x : Outcome) → Kept c i (judged x i c)
  stays x = record { position = refl; sizes = record { values = refl; adjustments = refl } }

  undone_kept : (v : ℕ) (u : Option ℤ) → Kept c i (undone c o i v u)
  undone_kept v None = stays Range
  undone_kept v (Some a) =
      record { position = refl; sizes = record { values = length-set c.values o.number v; adjustments = length-set c.adjustments o.number a } }

  valued_kept : (n : Result ℕ Halt) → Kept c i (valued c o i n)
  valued_kept (Err Over) = stays Range
  valued_kept (Err Stop) = either (Kept c i) (no_wait o) _ _ (stays Again) (stays Sleep)
  valued_kept (Ok v) =
      either (Kept c i) (with_undo o) _ _ (undone_kept v (next_adjustment (get_or c.adjustments o.number (pos 0)) o.amount))
      (record { position = refl; sizes = record { values = length-set c.values o.number v; adjustments = refl } })

  step_kept : Kept c i (step c o i)
  unfolding step
  step_kept = valued_kept (next_value (get_or c.values o.number 0) o.amount)

-- ---- the outcome and the position

agreed_by : (start : Copies) (i : ℕ) (x : Outcome) (here more more' : Judged) → here.outcome ≡ x → here.position ≡ i → Agreed more more'
    → Agreed (or_else x here more) (go_on start i x more')
unfolding or_else go_on
agreed_by start i Done here more more' e p a = a
agreed_by start i Sleep here more more' e p a = record { outcome = e; position = p }
agreed_by start i Again here more more' e p a = record { outcome = e; position = p }
agreed_by start i Range here more more' e p a = record { outcome = e; position = p }

agreed : (start : Copies) (os : List Operation) (c : Copies) (i : ℕ) → Agreed (walk_from os c i) (judge_from start os c i)
unfolding walk_from judge_from
agreed start [] c i = record { outcome = refl; position = refl }
agreed start (o ∷ os) c i =
    agreed_by start i (step c o i).outcome (step c o i) _ _ refl (step_kept c o i).position (agreed start os (step c o i).copies (i + 1))

module _ (start : Copies) (os : List Operation) where
  pub walk_outcome : (walk_from os start 0).outcome ≡ (judge start os).outcome
  walk_outcome = (agreed start os start 0).outcome

  pub walk_position : (walk_from os start 0).position ≡ (judge start os).position
  walk_position = (agreed start os start 0).position

-- ---- the copies

done_by : (start : Copies) (i : ℕ) (x : Outcome) (here more more' : Judged) → here.outcome ≡ x → (more.outcome ≡ Done → more.copies ≡ more'.copies)
    → (or_else x here more).outcome ≡ Done → (or_else x here more).copies ≡ (go_on start i x more').copies
unfolding or_else go_on
done_by start i Done here more more' e f d = f d
done_by start i Sleep here more more' e f d = let z : ◌≡◌ {A = ℕ} 0 1 = cc in absurd (omega arith)
done_by start i Again here more more' e f d = let z : ◌≡◌ {A = ℕ} 0 1 = cc in absurd (omega arith)
done_by start i Range here more more' e f d = let z : ◌≡◌ {A = ℕ} 0 1 = cc in absurd (omega arith)

done : (start : Copies) (os : List Operation) (c : Copies) (i : ℕ) → (walk_from os c i).outcome ≡ Done → (walk_from os c i).copies ≡ (judge_from start os c i).copies
unfolding walk_from judge_from
done start [] c i d = refl
done start (o ∷ os) c i d = done_by start i (step c o i).outcome (step c o i) _ _ refl (done start os (step c o i).copies (i + 1)) d

pub walk_done : (start : Copies) (os : List Operation) → (walk_from os start 0).outcome ≡ Done → (walk_from os start 0).copies ≡ (judge start os).copies
walk_done start os = done start os start 0

-- ---- their lengths

sized_by : (c : Copies) (x : Outcome) (here more : Judged) → SameSize here.copies c → SameSize more.copies c → SameSize (or_else x here more).copies c
unfolding or_else
sized_by c Done here more h m = m
sized_by c Sleep here more h m = h
sized_by c Again here more h m = h
sized_by c Range here more h m = h

pub walk_sizes : (os : List Operation) (c : Copies) (i : ℕ) → SameSize (walk_from os c i).copies c
unfolding walk_from
walk_sizes [] c i = record { values = refl; adjustments = refl }
walk_sizes (o ∷ os) c i =
    let s : SameSize (step c o i).copies c = (step_kept c o i).sizes in
    let m : SameSize (walk_from os (step c o i).copies (i + 1)).copies (step c o i).copies = walk_sizes os (step c o i).copies (i + 1) in
    sized_by c (step c o i).outcome (step c o i) _ s (record { values = m.values ∙ s.values; adjustments = m.adjustments ∙ s.adjustments })

-- ---- what judging on lent copies comes to: outcome x at position p, with the copies c left

pub record Walked (start : Copies) (os : List Operation) (x : Outcome) (p : ℕ) (c : Copies) : Type 0 where
  pub outcome : x ≡ (judge start os).outcome
  pub position : p ≡ (judge start os).position
  pub done : x ≡ Done → c ≡ (judge start os).copies
  pub sizes : SameSize c start

pub walked : (start : Copies) (os : List Operation) (x : Outcome) (p : ℕ) (c : Copies) → judged x p c ≡ walk_from os start 0 → Walked start os x p c
walked start os x p c e =
    let ex : x ≡ (walk_from os start 0).outcome = ap (λ (j : Judged). j.outcome) e in
    let ec : c ≡ (walk_from os start 0).copies = ap (λ (j : Judged). j.copies) e in
    record {
      outcome = ex ∙ walk_outcome start os;
      position = ap (λ (j : Judged). j.position) e ∙ walk_position start os;
      done = λ d. ec ∙ walk_done start os (sym ex ∙ d);
      sizes = rw ec (walk_sizes os start 0);
    }
