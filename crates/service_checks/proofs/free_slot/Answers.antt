use Rattle.std.proofs.Common.{◌≡◌, ◌≢◌, rules, tests}
use Rattle.std.proofs.lemmas.Iterator.{first_from_Range}
use Rattle.host.specs.Parts.{row_in}
use Rattle.host.specs.Holding.{set_at}
use Rattle.service_checks.proofs.FoundSets.{free_found}
use Rattle.service_checks.proofs.free_slot.Goals as goal

pub returns : goal.returns
returns c =
    let r = row_in c.args.host.now in
    free_found r _ (first_from_Range _ _ _ _ (λ slot. (set_at r slot).count ≡ 0) (λ slot. (set_at r slot).count ≢ 0) c.find.ensures.ran
    (λ x q k. search (rules, tests))
    (λ x q k. (search rules, search (rules, tests))))
