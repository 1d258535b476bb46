use Rattle.wakings.proofs.ListLaws.{none_in}
use Rattle.wakings.proofs.clear.Goals as goal

-- `wakings::clear` meets its contract.
pub returns : goal.returns
returns c = none_in
