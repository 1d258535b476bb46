-- One operation on the copies: the model's `step`, by what the calls found of its value and its adjustment.
use mathlib.Core.Path.{◌≡◌, refl}
use mathlib.Core.Bool.{Bool, true, false, cond}
use mathlib.Core.List.{List}
use Prim.Native.Nat.{ℕ, ◌≤◌}
use lib.ListN.{length, get_or, set, get_or-eq_default}
use lib.Seq.{set_out}
use lib.IntN.{ℤ, pos, nat_abs, neg_ℤ}
use mir.Syntax.{w16}
use mir.Val.{SFits}
use Rattle.model.specs.declared.Operation.{Operation}
use Rattle.model.specs.declared.Outcome.TheVariants.{Done, Sleep, Again, Range}
use Rattle.model.specs.Operation.{no_wait, with_undo, is_negative}
use Rattle.model.specs.Judge.{next_value, next_adjustment, judged, step}
use Rattle.judging.specs.Walk.{copies, stopped}
use Rattle.judging.proofs.Values.{off_zero, onto_zero, undo_zero}
use Rattle.std.specs.Prelude.{Option, Some, None, Ok, Err, Result}
use Rattle.model.specs.declared.Halt.{Halt}
use Rattle.model.specs.declared.Halt.TheVariants.{Over, Stop}

module _ (values : List ℕ) (adjustments : List ℤ) (o : Operation) where
  -- the next value, and the next adjustment, of the operation's semaphore
  abbrev value : Result ℕ Halt
  value = next_value (get_or values o.number 0) o.amount

  abbrev adjustment : Option ℤ
  adjustment = next_adjustment (get_or adjustments o.number (pos 0)) o.amount

  module _ (i : ℕ) where
    pub over : value ≡ Err Over → judged Range i (copies values adjustments) ≡ step (copies values adjustments) o i
    unfolding step
    over e = rw e

    stops : (b : Bool) → judged (cond b Again Sleep) i (copies values adjustments) ≡ cond b (judged Again i (copies values adjustments)) (judged Sleep i (copies values adjustments))
    stops true = refl
    stops false = refl

    pub stop : value ≡ Err Stop → judged (stopped o.flags) i (copies values adjustments) ≡ step (copies values adjustments) o i
    unfolding step
    stop e = rw e (stops (no_wait o))

    pub plain : (v : ℕ) → value ≡ Ok v → with_undo o ≡ false → judged Done i (copies (set values o.number v) adjustments) ≡ step (copies values adjustments) o i
    unfolding step
    plain v e f = rw (e, f)

    pub out : (v : ℕ) → value ≡ Ok v → with_undo o ≡ true → adjustment ≡ None → judged Range i (copies values adjustments) ≡ step (copies values adjustments) o i
    unfolding step
    out v e f g = rw (e, f, g)

    pub undoing : (v : ℕ) (a : ℤ) → value ≡ Ok v → with_undo o ≡ true → adjustment ≡ Some a
        → judged Done i (copies (set values o.number v) (set adjustments o.number a)) ≡ step (copies values adjustments) o i
    unfolding step
    undoing v a e f g = rw (e, f, g)

  -- where no semaphore has the number
  module _ (short : length values ≤ o.number) (short' : length adjustments ≤ o.number) (i : ℕ) where
    pub unheld_stops : is_negative o.amount ≡ true → judged (stopped o.flags) i (copies values adjustments) ≡ step (copies values adjustments) o i
    unheld_stops h = stop i (rw (get_or-eq_default values 0 short) (off_zero o.amount h))

    pub unheld_goes : SFits w16 o.amount → is_negative o.amount ≡ false → judged Done i (copies values adjustments) ≡ step (copies values adjustments) o i
    unheld_goes f h = go (with_undo o) refl
      where
        e : value ≡ Ok (nat_abs o.amount)
        e = rw (get_or-eq_default values 0 short) (onto_zero o.amount f h)

        g : adjustment ≡ Some (neg_ℤ o.amount)
        g = rw (get_or-eq_default adjustments (pos 0) short') (undo_zero o.amount f h)

        go : (b : Bool) → with_undo o ≡ b → judged Done i (copies values adjustments) ≡ step (copies values adjustments) o i
        go false w = rw (set_out values o.number (nat_abs o.amount) short) at (plain i (nat_abs o.amount) e w)
        go true w =
            rw (set_out values o.number (nat_abs o.amount) short, set_out adjustments o.number (neg_ℤ o.amount) short')
            at (undoing i (nat_abs o.amount) (neg_ℤ o.amount) e w g)
