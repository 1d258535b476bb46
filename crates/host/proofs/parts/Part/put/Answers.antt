use Rattle.std.proofs.Common.{ap, ◌∙◌, rules}
use Rattle.host.specs.Parts.{row_in}
use Rattle.host.proofs.PartLaws.{write_place, kept_at}
use Rattle.host.proofs.parts.Part.put.Goals as goal

pub returns-then-i-self : goal.returns-then-i-self
returns-then-i-self g c p e =
    let a = c.args in
    ap row_in (rw c.WIDTH.ensures at c.write.ensures.written) ∙ write_place p _ e a.i a.host.now (g.T.Number.value a.x) (search rules) c.if-i-self.true c.write.ensures.small

pub returns-else-i-self : goal.returns-else-i-self
returns-else-i-self g c p e = kept_at p _ e c.args.i c.args.host.now (g.T.Number.value c.args.x) c.if-i-self.false
