use Rattle.service_waking.proofs.Marking.{mark_none, mark_more, mark_all}
use Rattle.service_waking.proofs.mark_touched.Goals as goal

pub loop-n-init : goal.loop-n-init
loop-n-init c = mark_none c.requires

pub loop-n-preserved : goal.loop-n-preserved
loop-n-preserved c =
    mark_more c.requires c.args.slot.there_is c.loop-n.invariant c.loop-n-test.true
    c.slot_byte.ensures c.names_at.ensures

pub returns : goal.returns
returns c = mark_all c.requires c.loop-n.invariant c.loop-n-test.false
