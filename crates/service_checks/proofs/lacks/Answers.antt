use Rattle.host.specs.Parts.{row_in}
use Rattle.service_checks.proofs.FoundSets.{set_found}
use Rattle.service_checks.proofs.lacks.Goals as goal

pub returns : goal.returns
returns c a = rw (set_found c.ranges.identifier (row_in c.args.host.now) c.slot_of.ensures c.set_at-set.ensures)
