use Rattle.host.proofs.SemaphoreLaws.{zero_row}
use Rattle.host.proofs.start.fresh.Goals as goal

pub returns : goal.returns
returns c = zero_row
