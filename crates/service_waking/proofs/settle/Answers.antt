use mathlib.Core.Path.{◌≡◌, ap, ◌∙◌}
use lib.ListN.{length}
use Rattle.model.specs.Limits.{semaphores}
use Rattle.host.specs.Holding.{host_in}
use Rattle.service_table.specs.Written.{tabled}
use Rattle.service_table.proofs.WrittenLaws.{tabled_same}
use Rattle.service_waking.proofs.LentLaws.{after_stays}
use Rattle.service_waking.proofs.SettleLaws.{settle_done}
use borrow.Author.Rules.{rules}
use Rattle.service_waking.proofs.settle.Goals as goal

pub returns-in-Done : goal.returns-in-Done
returns-in-Done c =
    let v : length c.args.copies.values ≡ semaphores = search rules in
    let u : length c.args.copies.adjustments ≡ semaphores = search rules in
    settle_done (host_in c.args.host.now c.args.adjustments.now) c.args.at c.requires c.args.copies
    c.in-Done.is v u
    c.process_at-process.ensures c.slot_at-slot.ensures c.names_at-mask.ensures c.apply.ensures

pub returns-in_default : goal.returns-in_default
returns-in_default c =
    let x = host_in c.args.host.now c.args.adjustments.now in
    tabled_same x ∙ ap (tabled x) (after_stays _ _ _ _ c.in_default.not-Done)
