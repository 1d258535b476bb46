use Rattle.std.proofs.Common.{◌≡◌, ℕ, get_or, rules, tests}
use mathlib.Core.Logic.{◌≢◌}
use Rattle.std.proofs.lemmas.Iterator.{first_from_Range}
use Rattle.host.specs.Parts.{order, row_in}
use Rattle.service_queue.proofs.PositionLaws.{position_is}
use Rattle.service_queue.proofs.position.Goals as goal

pub returns : goal.returns
returns c =
    let p = c.args.process in
    let at = λ (k : ℕ). get_or (row_in c.args.host.now order) k 0 in
    position_is c.requires p _ c.asleep_of.ensures _
    (first_from_Range _ _ _ _ (λ k. at k ≡ p) (λ k. at k ≢ p) c.find.ensures.ran (λ x q k. search (rules, tests)) (λ x q k. search (rules, tests)))
