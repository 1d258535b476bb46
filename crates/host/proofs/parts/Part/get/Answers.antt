use Rattle.std.proofs.Common.{◌∙◌}
use Rattle.host.proofs.PartLaws.{read_place, none_at}
use Rattle.host.proofs.parts.Part.get.Goals as goal

pub returns-then-i-self : goal.returns-then-i-self
returns-then-i-self g c p e = rw c.WIDTH.ensures at c.read.ensures ∙ read_place p _ e c.args.i c.args.host.now c.if-i-self.true

pub returns-else-i-self : goal.returns-else-i-self
returns-else-i-self g c p e = g.met.T.Number.zero c.default.result c.default.ensures ∙ none_at p _ e c.args.i c.args.host.now c.if-i-self.false
