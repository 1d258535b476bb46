use mir.Val.{SFits}
use Rattle.std.proofs.Common.{◌≡◌, to_z-of_z, w32, rules}
use Rattle.model.specs.WholeSet.{query_set}
use Rattle.host.specs.Holding.{host_in, state_in}
use Rattle.service.proofs.ReadLaws.{few_read, read_out_lem}
use Rattle.service.proofs.events.read_all.read_all.Goals as goal
use Rattle.service.proofs.events.read_all.read_all.Goals.{After-query_set-set}

-- what is shown
shown : (c : After-query_set-set) → c.query_set-set.result ≡ query_set (state_in (host_in c.args.host.now c.args.adjustments.now)) c.args.process c.args.identifier
shown c = rw (to_z-of_z c.ranges.identifier) at c.query_set-set.ensures

pub put_numbers-requires : goal.put_numbers-requires
put_numbers-requires c = few_read (host_in c.args.host.now c.args.adjustments.now) c.requires c.args.process c.args.identifier (shown (goal.at.put_numbers-requires c).After-query_set-set)

pub returns : goal.returns
returns c =
    let fits : SFits w32 c.query_set-set.result.code = search rules in
    rw (to_z-of_z fits)
    (read_out_lem (host_in c.args.host.now c.args.adjustments.now) c.requires c.args.process c.args.identifier (shown (goal.at.returns c).After-query_set-set) c.args.numbers.now c.put_numbers.ensures)
