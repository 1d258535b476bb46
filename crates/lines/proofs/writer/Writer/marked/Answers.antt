use Rattle.lines.proofs.Writing.{also}
use Rattle.lines.proofs.writer.Writer.marked.Goals as goal

pub returns : goal.returns
returns g c = also c.byte.ensures c.number.ensures
