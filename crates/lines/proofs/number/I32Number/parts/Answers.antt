use Rattle.std.proofs.Common.{arith}
use Rattle.std.proofs.lemmas.Fmt.{length_signed_le}
use Rattle.lines.proofs.number.I32Number.parts.Goals as goal

pub returns-clause-short : goal.returns-clause-short
returns-clause-short c = length_signed_le 10 c.args.self (omega (arith, c.ranges.self.sfits)) (omega (arith, c.ranges.self.sfits))
