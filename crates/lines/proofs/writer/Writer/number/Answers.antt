use Rattle.std.proofs.Common.{arith}
use Rattle.lines.proofs.Writing.{nothing, signed}
use Rattle.lines.proofs.writer.Writer.number.Goals as goal
use Rattle.lines.proofs.writer.Writer.number.Goals.{then-negative, else-negative}

pub returns : goal.returns
returns g c =
    let p = c.parts-negative.ensures in
    elim c.if-negative.branch [
      | then-negative w ↦ signed w.byte.ensures (rw w.self-is at c.digits.ensures) (rw w.if-negative.true at p.text) p.short
      | else-negative w ↦ signed (nothing c.args.self.now (omega (arith, c.requires))) (rw w.self-is at c.digits.ensures) (rw w.if-negative.false at p.text) p.short
    ]
