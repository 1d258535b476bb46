use Rattle.host.specs.Parts.{row_in}
use Rattle.service_checks.proofs.FoundSets.{caller_found, set_found}
use Rattle.service_checks.proofs.may.Goals as goal

pub returns : goal.returns
returns c a =
    let r = row_in c.args.host.now in
    rw (caller_found r c.requires c.caller_of.ensures, set_found c.ranges.identifier r c.slot_of.ensures c.set_at.ensures) c.permits.ensures
