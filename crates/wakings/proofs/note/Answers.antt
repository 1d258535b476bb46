use native.Mathlib.Omega.{arith}
use Prim.Native.Nat.{ℕ}
use mathlib.Core.Path.{ap, ap₂, ◌∙◌}
use lib.ListN.{length-set, set}
use mir.Val.{bool_byte}
use borrow.Author.Rules.{rules}
use lib.IntN.{pos}
use Rattle.model.specs.Waking.{waking}
use Rattle.wakings.specs.Wakings.{place_of, places_in}
use Rattle.wakings.proofs.ListLaws.{stored, not_stored, decided_is, position_is}
use Rattle.wakings.proofs.note.Goals as goal

pub bounds-all-at-then-count-lt-PROCESSES : goal.bounds-all-at-then-count-lt-PROCESSES
bounds-all-at-then-count-lt-PROCESSES c = simp length-set (omega arith)

pub bounds-all-at-then-count-lt-PROCESSES-2 : goal.bounds-all-at-then-count-lt-PROCESSES-2
bounds-all-at-then-count-lt-PROCESSES-2 c = simp length-set (omega arith)

pub bounds-all-at-then-count-lt-PROCESSES-3 : goal.bounds-all-at-then-count-lt-PROCESSES-3
bounds-all-at-then-count-lt-PROCESSES-3 c = simp length-set (omega arith)

pub returns-then-count-lt-PROCESSES : goal.returns-then-count-lt-PROCESSES
returns-then-count-lt-PROCESSES c = let a = c.args in
    stored a.list.now a.count a.process a.code _ _ (search rules) (search rules)
    ∙ ap₂ (λ (d k : ℕ). set (places_in a.list.now) a.count (record { process = a.process; code = pos a.code; decided = d; position = k }))
    (ap bool_byte c.is_some.ensures ∙ decided_is a.position) (c.unwrap_or.ensures ∙ position_is a.position)

pub returns-else-count-lt-PROCESSES : goal.returns-else-count-lt-PROCESSES
returns-else-count-lt-PROCESSES c = let a = c.args in
    not_stored a.list.now a.count (place_of (waking a.process (pos a.code) a.position)) (search rules)
