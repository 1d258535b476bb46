use Rattle.std.proofs.Common.{◌∙◌}
use Rattle.host.proofs.Numbers.{number_read}
use Rattle.host.proofs.bytes.U64Number.read.Goals as goal

pub returns : goal.returns
returns c = rw c.bytes_at.ensures at c.from_le_bytes.ensures ∙ number_read 7 c.args.at c.args.bytes.now
