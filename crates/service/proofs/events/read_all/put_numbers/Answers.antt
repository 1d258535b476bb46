use Rattle.std.proofs.Common.{sym, ◌∙◌, arith}
use Rattle.service.proofs.ReadLaws.{numbers_more, numbers_end}
use Rattle.service.proofs.events.read_all.put_numbers.Goals as goal

pub loop-n-preserved : goal.loop-n-preserved
loop-n-preserved c = rw c.from.ensures (numbers_more _ _ _ c.args.count c.loop-n.n c.loop-n.all (omega arith) ∙ c.loop-n.invariant)

pub returns : goal.returns
returns c = sym (numbers_end _ _ _ c.args.count c.loop-n.n c.loop-n.all (omega arith)) ∙ c.loop-n.invariant
