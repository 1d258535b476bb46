use Rattle.service_table.proofs.LoopLaws.{clear_none, clear_more}
use borrow.Author.Rules.{rules}
use Rattle.service_table.proofs.clear_adjustments.Goals as goal

pub loop-n-init : goal.loop-n-init
loop-n-init c = clear_none _ _ (search rules)

pub loop-n-preserved : goal.loop-n-preserved
loop-n-preserved c = clear_more _ c.loop-n.invariant c.args.slot.there_is c.loop-n-test.true c.put_adjustments.ensures
