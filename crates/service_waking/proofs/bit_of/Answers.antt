use Prim.Native.Nat.{◌-◌}
use native.Mathlib.Omega.{arith}
use Rattle.service_waking.proofs.ByProcess.{shifted}
use Rattle.service_waking.proofs.bit_of.Goals as goal

pub returns : goal.returns
returns c = shifted (c.args.process.number - 1) (omega (arith, c.args.process.there_is.most))
