use Rattle.std.proofs.Common.{◌≡◌, sym, ap, ◌∙◌, arith, rules}
use Rattle.model.specs.Limits.{semaphores, all_semaphores}
use Rattle.model.specs.State.{row}
use Rattle.host.specs.Parts.{row_in, Place}
use Rattle.host.proofs.PartLaws.{count, length_part}
use Rattle.host.proofs.RowLaws.{from_each, from_beyond}
use Rattle.host.proofs.semaphores.eight_of.Goals as goal

pub returns-then-slot-ge-SETS : goal.returns-then-slot-ge-SETS
returns-then-slot-ge-SETS g c p e =
    let a = c.args in
    let n : count p ≡ all_semaphores = ap (λ (q : Place). q.shape.count) e ∙ c.requires.by_semaphore in
    rw (g.met.T.Number.zero c.default.result c.default.ensures) (sym (from_beyond 0 semaphores (row a.slot) (row_in a.host.now p) (omega (arith, length_part p a.host.now, n))))

pub returns : goal.returns
returns g c p e =
    let a = c.args in
    let r = c.from_fn.ensures.items in
    from_each g.T.Number.value 0 semaphores (row a.slot) (row_in a.host.now p) c.from_fn.result r.long (λ i d l. let (s, q, k) = r.at i d l in search rules)
