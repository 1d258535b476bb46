use Rattle.std.proofs.Common.{ℕ, ℤ, pos, sym, ap, ◌∙◌, arith, rules}
use Rattle.std.proofs.lemmas.List.{map-id}
use Rattle.model.specs.Limits.{semaphores}
use Rattle.host.specs.Rows.{from, undo_at}
use Rattle.host.proofs.RowLaws.{from_each, from_beyond}
use Rattle.host.proofs.adjustments.adjustments_of.Goals as goal

pub returns-in_default : goal.returns-in_default
returns-in_default c =
    let a = c.args in
    sym (from_beyond (pos 0) semaphores (undo_at a.process a.slot) a.adjustments.now (omega (arith, c.in_default.ensures)))

pub returns : goal.returns
returns c =
    let a = c.args in
    let r = c.from_fn.ensures.items in
    let (e, l) = c.in-Some.ensures in
    sym (map-id c.from_fn.result)
    ∙ from_each (λ (x : ℤ). x) (pos 0) semaphores c.in-Some.start a.adjustments.now c.from_fn.result r.long (λ i d l. let (p, q, k) = r.at i d l in search rules)
    ∙ ap (λ (k : ℕ). from (pos 0) semaphores k a.adjustments.now) e
