use Rattle.std.proofs.Common.{arith}
use Rattle.std.proofs.lemmas.Fmt.{length-decimal-le}
use Rattle.lines.proofs.number.U16Number.parts.Goals as goal

pub returns-clause-short : goal.returns-clause-short
returns-clause-short c = length-decimal-le 5 c.args.self (omega arith) (omega (arith, c.ranges.self.fits)) (omega (arith, c.ranges.self.fits))
