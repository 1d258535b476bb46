use mathlib.Core.Path.{◌≡◌, ap, ap₂, ◌∙◌}
use mathlib.Core.List.{List, [], ◌∷◌}
use lib.IntN.{ℤ, pos}
use borrow.Author.Tests.{eq-eqb}
use Rattle.model.specs.declared.Engine.TheVariants.{Quick}
use Rattle.model.specs.State.{fresh_state}
use Rattle.model.specs.Events.{create, operate, do_create}
use Rattle.model.specs.Runs.{start}
use Rattle.host.specs.Parts.{Row}
use Rattle.host.specs.Holding.{Host, host_of, state_in}
use Rattle.service.specs.After.{After, after_in, after_of, tells}
use Rattle.service.specs.Calls.{creates, operates, Called, no_call, and_call}
use Rattle.example.proofs.Events.{take, give, created, slept, given, after_create, after_sleep, held, is_created, is_slept, is_given, slept_looks, given_looks, given_wakings}
use Rattle.example.proofs.main.Goals as goal
use Rattle.example.proofs.main.Goals.{After-create, After-operate-asleep, After-operate-given}
use Rattle.std.specs.Prelude.{None}

-- ---- what each event leaves

is_fresh : {r : Row} {a : List ℤ} → r ≡ (host_of fresh_state).row → a ≡ (host_of fresh_state).adjustments → ◌≡◌ {A = Host} (record { row = r; adjustments = a }) (host_of fresh_state)
is_fresh e h = ap₂ (λ (r : Row) (a : List ℤ). record { row = r; adjustments = a }) e h

host_of_lem : {a b : After} → a ≡ b → a.host ≡ b.host
host_of_lem e = ap (λ (x : After). x.host) e

looks_of : {a b : After} → a ≡ b → a.told.looks ≡ b.told.looks
looks_of e = ap (λ (x : After). x.told.looks) e

woken_of : {a b : After} → a ≡ b → a.told.woken ≡ b.told.woken
woken_of e = ap (λ (x : After). x.told.woken) e

-- behind the create
behind_create : (c : After-create) → let a = c.create in after_in a.new.host a.new.adjustments a.new.wakings a.result ≡ after_of created
behind_create c = is_created (is_fresh c.fresh-host.ensures c.no_adjustments-adjustments.ensures) c.create.ensures

-- behind the first operate
behind_operate : (c : After-operate-asleep) → let a = c.operate-asleep in after_in a.new.host a.new.adjustments a.new.wakings a.result ≡ after_of slept
behind_operate c =
    is_slept (host_of_lem (is_created (is_fresh c.fresh-host.ensures c.no_adjustments-adjustments.ensures) c.create.ensures)) c.operate-asleep.ensures

-- behind the second
behind_operate2 : (c : After-operate-given) → let a = c.operate-given in after_in a.new.host a.new.adjustments a.new.wakings a.result ≡ after_of given
behind_operate2 c =
    is_given (host_of_lem (is_slept (host_of_lem (is_created (is_fresh c.fresh-host.ensures c.no_adjustments-adjustments.ensures) c.create.ensures)) c.operate-asleep.ensures))
    c.operate-given.ensures

-- The three are calls in a row, from a fresh host on: what is proved of such (crates/service/proofs/Calls.antt) holds of them.
called : (c : After-operate-given) → let a = c.operate-given in let b = c.operate-asleep in let d = c.create in
    Called Quick (host_of fresh_state) (create 1 1 511 ∷ operate 1 (pos 0) None take ∷ operate 2 (pos 0) None give ∷ [])
    (tells (after_in d.new.host d.new.adjustments d.new.wakings d.result) ∷ tells (after_in b.new.host b.new.adjustments b.new.wakings b.result) ∷ tells (after_in a.new.host a.new.adjustments a.new.wakings a.result) ∷ [])
called c =
    and_call (creates 1 1 511 _ (c.create.ensures ∙ ap (λ (x : Host). after_of (do_create (state_in x) 1 1 511)) (is_fresh c.fresh-host.ensures c.no_adjustments-adjustments.ensures)))
    (and_call (operates 1 (pos 0) None take _ c.operate-asleep.ensures)
    (and_call (operates 2 (pos 0) None give _ c.operate-given.ensures)
    no_call))

-- ---- the needs

pub create-requires : goal.create-requires
create-requires c = held start (is_fresh c.fresh-host.ensures c.no_adjustments-adjustments.ensures)

pub operate-asleep-requires : goal.operate-asleep-requires
operate-asleep-requires c = held after_create (host_of_lem (behind_create (goal.at.operate-asleep-requires c).After-create))

pub expect-requires : goal.expect-requires
expect-requires c = eq-eqb _ 0 (looks_of (behind_operate (goal.at.expect-requires c).After-operate-asleep) ∙ slept_looks)

pub operate-given-requires : goal.operate-given-requires
operate-given-requires c = held after_sleep (host_of_lem (behind_operate (goal.at.operate-given-requires c).After-operate-asleep))

pub expect-requires-2 : goal.expect-requires-2
expect-requires-2 c = eq-eqb _ 1 (woken_of (behind_operate2 (goal.at.expect-requires-2 c).After-operate-given) ∙ given_wakings)

pub expect-requires-3 : goal.expect-requires-3
expect-requires-3 c = eq-eqb _ 1 (looks_of (behind_operate2 (goal.at.expect-requires-3 c).After-operate-given) ∙ given_looks)
