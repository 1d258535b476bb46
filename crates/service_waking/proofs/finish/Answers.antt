use Rattle.service_waking.specs.Lent.{lent_in}
use Rattle.service_waking.proofs.SettleLaws.{settleable, finish_row, finish_there, finish_all}
use Rattle.service_waking.proofs.finish.Goals as goal

pub settle-requires : goal.settle-requires
settle-requires c = settleable _ c.requires.ready c.args.at c.requires.there

pub take_out-requires : goal.take_out-requires
take_out-requires c =
    let a = c.args in
    let x = lent_in a.host.now a.adjustments.now a.wakings.now a.woken in
    record {
      queue_held = finish_row x c.requires.ready a.at c.requires.there _ _ c.settle.ensures;
      at_in_bounds = finish_there x c.requires.ready a.at c.requires.there _ _ c.settle.ensures;
    }

pub returns : goal.returns
returns c =
    let a = c.args in
    let x = lent_in a.host.now a.adjustments.now a.wakings.now a.woken in
    finish_all x c.requires.ready a.at c.requires.there _ _ c.settle.ensures c.requires.judged c.requires.finished
    c.process_at-process.ensures c.take_out.ensures c.ending.ensures c.decided-position.ensures c.note.ensures
