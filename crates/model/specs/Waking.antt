-- The plain and the quick rule, for a set ("Waking").
use Rattle.std.specs.Prelude.{ℕ, zero, suc, ◌+◌, Bool, true, false, List, [], ◌∷◌, ◌++◌, length, get_or, ℤ}
use Rattle.model.specs.declared.Engine.{Engine}
use Rattle.model.specs.declared.Engine.TheVariants.{Plain, Quick}
use Rattle.model.specs.declared.Waking.{Waking}
use Rattle.model.specs.State.{Table, Sleeper, no_sleeper}
use Rattle.model.specs.Judge.{code_of, decider_of, finishes, Position}
use Rattle.model.specs.Look.{look, after, values_of}
use Rattle.model.specs.Marks.{mine, marked, unmark, mark_touched, differing}

-- What a waking changes: the table, the queue, and the list of those it woke, in order.
pub record World : Type 0 where
  pub table : Table
  pub queue : List Sleeper
  pub wakings : List Waking

-- What it ends with. "Looks are counted per event: each judging of a sleeper in its waking is one".
pub record Ended : Type 0 where
  pub world : World
  pub looks : ℕ

-- A round finishes nobody, or the sleeper at a position; with the looks so far, and the marks that are left.
pub data Round : Type 0 where
  nobody : ℕ → ℕ → Round
  finished : ℕ → ℕ → ℕ → Round

-- would a look finish the sleeper?
abbrev pub could_finish : Table → Sleeper → Bool
could_finish t s = finishes (look t s).outcome

-- a list without what stands at a position
unfoldable pub without : {A : Type 0} → List A → ℕ → List A
without [] i = []
without (x ∷ xs) zero = xs
without (x ∷ xs) (suc i) = x ∷ without xs i

abbrev pub waking : ℕ → ℤ → Position → Waking
waking process code position = record { process = process; code = code; position = position }

-- "applied with code 0, or ended with 11 or 34", and taken out; "each waking with 11 or 34" names the operation that decided
unfoldable pub finish : World → ℕ → World
finish w i =
    let s = get_or w.queue i no_sleeper in
    let j = look w.table s in
    record {
      table = after w.table s j.outcome j.copies;
      queue = without w.queue i;
      wakings = w.wakings ++ waking s.process (code_of j.outcome) (decider_of j) ∷ [];
    }

-- a round after one sleeper: is it looked at, would it finish, its position, the looks before, the marks before and
-- with its own off, and the round over the rest
abbrev pub passed : Bool → Bool → ℕ → ℕ → ℕ → ℕ → (ℕ → ℕ → Round) → Round
passed false ends i l m m' rest = rest l m
passed true true i l m m' rest = finished i (l + 1) m'
passed true false i l m m' rest = rest (l + 1) m'

-- "look from the oldest on", from position i
unfoldable pub plain_round : Table → ℕ → List Sleeper → ℕ → ℕ → ℕ → Round
plain_round t slot [] i l m = nobody l m
plain_round t slot (s ∷ q) i l m = passed (mine slot s) (could_finish t s) i l m m (λ l' m'. plain_round t slot q (i + 1) l' m')

-- both, the first deciding
abbrev pub both : Bool → Bool → Bool
both true b = b
both false b = false

-- "A round looks at marked sleepers only, oldest first, and each look takes the mark off."
unfoldable pub quick_round : Table → ℕ → List Sleeper → ℕ → ℕ → ℕ → Round
quick_round t slot [] i l m = nobody l m
quick_round t slot (s ∷ q) i l m = passed (both (mine slot s) (marked m s)) (could_finish t s) i l m (unmark m s) (λ l' m'. quick_round t slot q (i + 1) l' m')

-- what follows a round: the end, or what begins again once a sleeper is finished
abbrev pub after_round : World → (ℕ → ℕ → ℕ → Ended) → Round → Ended
after_round w again (nobody l m) = record { world = w; looks = l }
after_round w again (finished i l m) = again i l m

-- "at the first that is finished, take it out and begin again at the oldest; end when a whole round finishes nobody, or none
-- sleeps". The first number is that of the sleepers.
unfoldable pub plain : ℕ → ℕ → World → ℕ → Ended
plain zero slot w l = record { world = w; looks = l }
plain (suc n) slot w l = after_round w (λ i l' m'. plain n slot (finish w i) l') (plain_round w.table slot w.queue 0 l 0)

-- "A sleeper that is finished marks those who name a semaphore whose value it changed, and a new round begins."
abbrev pub remark : ℕ → World → World → ℕ → ℕ
remark slot w w' m = mark_touched slot (differing 0 0 (values_of w.table slot) (values_of w'.table slot)) m w'.queue

unfoldable pub quick : ℕ → ℕ → ℕ → World → ℕ → Ended
quick zero slot m w l = record { world = w; looks = l }
quick (suc n) slot m w l = after_round w (λ i l' m'. quick n slot (remark slot w (finish w i) m') (finish w i) l') (quick_round w.table slot w.queue 0 l m)

-- the marks that the quick rule ends with: those that its last round leaves
abbrev pub marks_after : (ℕ → ℕ → ℕ → ℕ) → Round → ℕ
marks_after again (nobody l m) = m
marks_after again (finished i l m) = again i l m

unfoldable pub marks_left : ℕ → ℕ → ℕ → World → ℕ → ℕ
marks_left zero slot m w l = m
marks_left (suc n) slot m w l = marks_after (λ i l' m'. marks_left n slot (remark slot w (finish w i) m') (finish w i) l') (quick_round w.table slot w.queue 0 l m)

-- How a set is treated: its slot, its touched semaphores, the world, and the looks so far.
abbrev pub Waker : Type 0
Waker = ℕ → ℕ → World → ℕ → Ended

-- "the plain engine goes by the plain rule, the quick one by the quick rule"
unfoldable pub waker : Engine → Waker
waker Plain slot touched w l = plain (length w.queue) slot w l
waker Quick slot touched w l = quick (length w.queue) slot (mark_touched slot touched 0 w.queue) w l
