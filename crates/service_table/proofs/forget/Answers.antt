use Rattle.model.specs.Events.{clear_number}
use Rattle.service_table.proofs.LoopLaws.{clear_number_more}
use borrow.Author.Rules.{rules}
use Rattle.service_table.proofs.forget.Goals as goal

pub loop-n-init : goal.loop-n-init
unfolding clear_number
loop-n-init c = search rules

pub loop-n-preserved : goal.loop-n-preserved
loop-n-preserved c = clear_number_more _ _ _ _ _ _ c.loop-n.invariant c.put_adjustment.ensures
