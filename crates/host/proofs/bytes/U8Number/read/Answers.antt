use Rattle.std.proofs.Common.{sym}
use Rattle.host.proofs.Numbers.{one_byte}
use Rattle.host.proofs.bytes.U8Number.read.Goals as goal

pub returns : goal.returns
returns c = sym (one_byte c.args.bytes.now c.args.at)
