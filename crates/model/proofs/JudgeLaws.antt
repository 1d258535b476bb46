-- Judging: unless done it gives back what it began with; it keeps sizes and ranges, and depends only on the values and adjustments of the semaphores that the array names.
use Prim.Native.Nat.{ℕ, zero, suc, ◌+◌, ◌-◌, ◌≤◌}
use native.Mathlib.Omega.{arith}
use mathlib.Core.Path.{◌≡◌, refl, sym, ◌∙◌}
use mathlib.Core.Logic.{◌≢◌, ◌⊎◌, inl, inr}
use mathlib.Core.Bool.{Bool, true, false, cond}
use mathlib.Core.List.{List, [], ◌∷◌}
use lib.Dec.{ltb, eqb}
use lib.ListN.{length, get_or, length-set}
use lib.Seq.{get_or-set_other}
use lib.IntN.{ℤ, pos, negsuc, ◌-ℤ◌}
use lib.Signed.{lt_z}
use borrow.Author.Tests.{ltb-false}
use Rattle.model.specs.declared.Operation.{Operation}
use Rattle.model.specs.declared.Outcome.{Outcome}
use Rattle.model.specs.declared.Outcome.TheVariants.{Done, Sleep, Again, Range}
use Rattle.model.specs.declared.Copies.{Copies}
use Rattle.model.specs.declared.Judged.{Judged}
use Rattle.model.specs.Limits.{semaphores, value_max}
use Rattle.model.specs.Operation.{no_wait, with_undo}
use Rattle.model.specs.Judge.{next_value, next_adjustment, judged, with_value, with_adjustment, undone, valued, step, go_on, judge_from}
use Rattle.model.specs.Runs.{All}
use Rattle.model.proofs.Lists.{rest, first, all_of, all_map, all_set, all_get_d, set_alike}
use Rattle.model.specs.Invariant.{Ranged}
use Rattle.std.specs.Prelude.{Option, Some, None, Ok, Err, Result}
use Rattle.model.specs.declared.Halt.{Halt}
use Rattle.model.specs.declared.Halt.TheVariants.{Over, Stop}

-- whichever of the two a test picks
pub either : {A : Type 0} (P : A → Type 0) (b : Bool) (x y : A) → P x → P y → P (cond b x y)
either P true x y h k = h
either P false x y h k = k

-- ---- nothing is applied of an array that is not done

-- a judging that is done, or gives back what it began with
abbrev TakenBack : Copies → Judged → Type 0
TakenBack start j = (j.outcome ≡ Done) ⊎ (j.copies ≡ start)

go_on_taken_back : (start : Copies) (i : ℕ) (x : Outcome) (more : Judged) → TakenBack start more → TakenBack start (go_on start i x more)
unfolding go_on
go_on_taken_back start i Done more h = h
go_on_taken_back start i Sleep more h = inr refl
go_on_taken_back start i Again more h = inr refl
go_on_taken_back start i Range more h = inr refl

pub taken_back : (start : Copies) (os : List Operation) (c : Copies) (i : ℕ) → TakenBack start (judge_from start os c i)
unfolding judge_from
taken_back start [] c i = inl refl
taken_back start (o ∷ os) c i = go_on_taken_back start i (step c o i).outcome _ (taken_back start os (step c o i).copies (i + 1))

-- ---- sizes and ranges

-- copies have their sizes, and each number its range
pub record Fine (c : Copies) : Type 0 where
  pub values : length c.values ≡ semaphores
  pub adjustments : length c.adjustments ≡ semaphores
  pub small : All (λ (v : ℕ). v ≤ value_max) c.values
  pub ranged : All Ranged c.adjustments

-- the value that an amount leads to is in range
pub next_small : (v : ℕ) (z : ℤ) (x : ℕ) → v ≤ value_max → next_value v z ≡ Ok x → x ≤ value_max
unfolding next_value
next_small v (pos zero) x h e = go (eqb v 0) e
  where
    go : (b : Bool) → cond b (Ok v) (Err Stop) ≡ Ok x → x ≤ value_max
    go true f = let r : v ≡ x = cc in omega arith
    go false f = let r : ◌≡◌ {A = ℕ} 0 1 = cc in absurd (omega arith)
next_small v (pos (suc k)) x h e = go (ltb value_max (v + suc k)) refl e
  where
    go : (b : Bool) → ltb value_max (v + suc k) ≡ b → cond b (Err Over) (Ok (v + suc k)) ≡ Ok x → x ≤ value_max
    go true g f = let r : ◌≡◌ {A = ℕ} 0 1 = cc in absurd (omega arith)
    go false g f = let r : v + suc k ≡ x = cc in omega (arith, ltb-false value_max (v + suc k) g)
next_small v (negsuc k) x h e = go (ltb v (suc k)) e
  where
    go : (b : Bool) → cond b (Err Stop) (Ok (v - suc k)) ≡ Ok x → x ≤ value_max
    go true f = let r : ◌≡◌ {A = ℕ} 0 1 = cc in absurd (omega arith)
    go false f = let r : v - suc k ≡ x = cc in omega arith

-- a number that passes the two tests of an adjustment is in range
within : (z : ℤ) → lt_z z (negsuc (value_max - 1)) ≡ false → lt_z (pos value_max) z ≡ false → Ranged z
within (pos n) h k = ltb-false value_max n k
within (negsuc n) h k = let r : n ≤ 32766 = ltb-false 32766 n h in omega arith

pub next_ranged : (a amount z : ℤ) → next_adjustment a amount ≡ Some z → Ranged z
unfolding next_adjustment
next_ranged a amount z e = go (lt_z (a -ℤ amount) (negsuc (value_max - 1))) refl (lt_z (pos value_max) (a -ℤ amount)) refl e
  where
    go : (b : Bool) → lt_z (a -ℤ amount) (negsuc (value_max - 1)) ≡ b → (b' : Bool) → lt_z (pos value_max) (a -ℤ amount) ≡ b'
        → cond b None (cond b' None (Some (a -ℤ amount))) ≡ Some z → Ranged z
    go true h b' k f = let r : ◌≡◌ {A = ℕ} 0 1 = cc in absurd (omega arith)
    go false h true k f = let r : ◌≡◌ {A = ℕ} 0 1 = cc in absurd (omega arith)
    go false h false k f = let r : a -ℤ amount ≡ z = cc in rw r at (within (a -ℤ amount) h k)

-- what an operation leaves: the copies as they were, with its value, or with its value and its adjustment
step_leaves : (P : Copies → Type 0) (c : Copies) (o : Operation) (i : ℕ) → P c
    → ((v : ℕ) → next_value (get_or c.values o.number 0) o.amount ≡ Ok v → P (with_value c o.number v))
    → ((v : ℕ) (a : ℤ) → P (with_value c o.number v) → next_adjustment (get_or c.adjustments o.number (pos 0)) o.amount ≡ Some a
    → P (with_adjustment (with_value c o.number v) o.number a))
    → P (step c o i).copies
unfolding step
step_leaves P c o i h value adjustment = go (next_value (get_or c.values o.number 0) o.amount) refl
  where
    adjusted : (v : ℕ) → P (with_value c o.number v) → (y : Option ℤ) → next_adjustment (get_or c.adjustments o.number (pos 0)) o.amount ≡ y → P (undone c o i v y).copies
    adjusted v k None e = h
    adjusted v k (Some a) e = adjustment v a k e

    go : (x : Result ℕ Halt) → next_value (get_or c.values o.number 0) o.amount ≡ x → P (valued c o i x).copies
    go (Err Over) e = h
    go (Err Stop) e = either (λ (j : Judged). P j.copies) (no_wait o) _ _ h h
    go (Ok v) e = either (λ (j : Judged). P j.copies) (with_undo o) _ _ (adjusted v (value v e) _ refl) (value v e)

-- what goes on leaves the copies of the rest, or those that the array began with
go_on_leaves : (P : Copies → Type 0) (start : Copies) (i : ℕ) (x : Outcome) (more : Judged) → P start → P more.copies → P (go_on start i x more).copies
unfolding go_on
go_on_leaves P start i Done more h k = k
go_on_leaves P start i Sleep more h k = h
go_on_leaves P start i Again more h k = h
go_on_leaves P start i Range more h k = h

-- what each operation keeps, judging keeps
judge_leaves : (P : Copies → Type 0) (start : Copies) (os : List Operation) (c : Copies) (i : ℕ) → P start → P c
    → All (λ (o : Operation). (c : Copies) (i : ℕ) → P c → P (step c o i).copies) os → P (judge_from start os c i).copies
unfolding judge_from
judge_leaves P start [] c i h k each = k
judge_leaves P start (o ∷ os) c i h k each =
    go_on_leaves P start i (step c o i).outcome _ h (judge_leaves P start os (step c o i).copies (i + 1) h (first each c i k) (rest each))

pub step_fine : (c : Copies) (o : Operation) (i : ℕ) → Fine c → Fine (step c o i).copies
step_fine c o i f =
    step_leaves Fine c o i f (λ v e. record {
      values = length-set c.values o.number v ∙ f.values;
      adjustments = f.adjustments;
      small = all_set c.values o.number v f.small (next_small _ o.amount v (all_get_d (λ (v : ℕ). v ≤ value_max) c.values o.number 0 f.small (omega arith)) e);
      ranged = f.ranged;
    }) (λ v a g e. record {
      values = g.values;
      adjustments = length-set c.adjustments o.number a ∙ f.adjustments;
      small = g.small;
      ranged = all_set c.adjustments o.number a f.ranged (next_ranged _ o.amount a e);
    })

pub judge_fine : (start : Copies) (os : List Operation) (c : Copies) (i : ℕ) → Fine start → Fine c → Fine (judge_from start os c i).copies
judge_fine start os c i f g = judge_leaves Fine start os c i f g (all_of os (λ o c i k. step_fine c o i k))

-- the value and the adjustment of a semaphore are 0
pub record Idle (n : ℕ) (c : Copies) : Type 0 where
  pub value : get_or c.values n 0 ≡ 0
  pub adjustment : get_or c.adjustments n (pos 0) ≡ pos 0

-- .. and stay so if the array does not name it
pub judge_idle : (n : ℕ) (start : Copies) (os : List Operation) (c : Copies) (i : ℕ) → Idle n start → Idle n c → All (λ (o : Operation). o.number ≢ n) os
    → Idle n (judge_from start os c i).copies
judge_idle n start os c i h k others = judge_leaves (Idle n) start os c i h k (all_map step_idle others)
  where
    step_idle : (o : Operation) → o.number ≢ n → (c : Copies) (i : ℕ) → Idle n c → Idle n (step c o i).copies
    step_idle o ne c i z =
        step_leaves (Idle n) c o i z (λ v e. record {
          value = get_or-set_other c.values o.number n v 0 (λ x. ne (sym x)) ∙ z.value;
          adjustment = z.adjustment;
        }) (λ v a y e. record {
          value = y.value;
          adjustment = get_or-set_other c.adjustments o.number n a (pos 0) (λ x. ne (sym x)) ∙ z.adjustment;
        })

-- ---- locality

pub record SameSize (c c' : Copies) : Type 0 where
  pub values : length c.values ≡ length c'.values
  pub adjustments : length c.adjustments ≡ length c'.adjustments

-- two copies that an operation cannot tell apart
pub record SameFor (c c' : Copies) (o : Operation) : Type 0 where
  pub value : get_or c.values o.number 0 ≡ get_or c'.values o.number 0
  pub adjustment : get_or c.adjustments o.number (pos 0) ≡ get_or c'.adjustments o.number (pos 0)

-- an operation on two such copies: the same outcome, and what could not be told apart before cannot be now
record Twin (c c' : Copies) (j j' : Judged) : Type 0 where
  outcome : j.outcome ≡ j'.outcome
  size : SameSize j.copies j'.copies
  alike : (o : Operation) → SameFor c c' o → SameFor j.copies j'.copies o

module _ (c c' : Copies) (z : SameSize c c') where
  still : (x : Outcome) (i : ℕ) → Twin c c' (judged x i c) (judged x i c')
  still x i = record { outcome = refl; size = z; alike = λ o h. h }

  stored : (n v i : ℕ) → Twin c c' (judged Done i (with_value c n v)) (judged Done i (with_value c' n v))
  stored n v i =
      record {
        outcome = refl;
        size = record { values = length-set c.values n v ∙ z.values ∙ sym (length-set c'.values n v); adjustments = z.adjustments };
        alike = λ o h. record { value = set_alike 0 c.values c'.values n v o.number z.values h.value; adjustment = h.adjustment };
      }

  undone_twin : (o : Operation) (i v : ℕ) (y : Option ℤ) → Twin c c' (undone c o i v y) (undone c' o i v y)
  undone_twin o i v None = still Range i
  undone_twin o i v (Some a) =
      let s : Twin c c' (judged Done i (with_value c o.number v)) (judged Done i (with_value c' o.number v)) = stored o.number v i in
      record {
        outcome = refl;
        size = record {
          values = s.size.values;
          adjustments = length-set c.adjustments o.number a ∙ z.adjustments ∙ sym (length-set c'.adjustments o.number a);
        };
        alike = λ p h. record {
          value = (s.alike p h).value;
          adjustment = set_alike (pos 0) c.adjustments c'.adjustments o.number a p.number z.adjustments h.adjustment;
        };
      }

  step_twin : (o : Operation) (i : ℕ) → SameFor c c' o → Twin c c' (step c o i) (step c' o i)
  unfolding step
  step_twin o i h = rw h.value (go (next_value (get_or c'.values o.number 0) o.amount))
    where
      waits : (b : Bool) → Twin c c' (cond b (judged Again i c) (judged Sleep i c)) (cond b (judged Again i c') (judged Sleep i c'))
      waits true = still Again i
      waits false = still Sleep i

      takes : (v : ℕ) (y : Option ℤ) (b : Bool) → Twin c c' (cond b (undone c o i v y) (judged Done i (with_value c o.number v))) (cond b (undone c' o i v y) (judged Done i (with_value c' o.number v)))
      takes v y true = undone_twin o i v y
      takes v y false = stored o.number v i

      go : (x : Result ℕ Halt) → Twin c c' (valued c o i x) (valued c' o i x)
      go (Err Over) = still Range i
      go (Err Stop) = waits (no_wait o)
      go (Ok v) = rw h.adjustment (takes v (next_adjustment (get_or c'.adjustments o.number (pos 0)) o.amount) (with_undo o))

-- what goes on has one outcome, and decides at one position
pub record Agreed (j j' : Judged) : Type 0 where
  pub outcome : j.outcome ≡ j'.outcome
  pub position : j.position ≡ j'.position

go_on_agreed : (start start' : Copies) (i : ℕ) (x : Outcome) (more more' : Judged) → Agreed more more' → Agreed (go_on start i x more) (go_on start' i x more')
unfolding go_on
go_on_agreed start start' i Done more more' a = a
go_on_agreed start start' i Sleep more more' a = record { outcome = refl; position = refl }
go_on_agreed start start' i Again more more' a = record { outcome = refl; position = refl }
go_on_agreed start start' i Range more more' a = record { outcome = refl; position = refl }

pub judge_local : (start start' : Copies) (os : List Operation) (c c' : Copies) (i : ℕ) → SameSize c c' → All (SameFor c c') os
    → Agreed (judge_from start os c i) (judge_from start' os c' i)
unfolding judge_from
judge_local start start' [] c c' i z h = record { outcome = refl; position = refl }
judge_local start start' (o ∷ os) c c' i z h =
    let t : Twin c c' (step c o i) (step c' o i) = step_twin c c' z o i (first h) in
    rw t.outcome
    (go_on_agreed start start' i (step c' o i).outcome _ _ (judge_local start start' os (step c o i).copies (step c' o i).copies (i + 1) t.size (all_map t.alike (rest h))))
