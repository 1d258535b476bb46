use Rattle.std.proofs.Common.{rules}
use Rattle.host.proofs.SleeperLaws.{room_there, room_none}
use Rattle.host.proofs.sleepers.room_of.Goals as goal

pub returns-in-Some : goal.returns-in-Some
returns-in-Some c =
    let a = c.args in
    let (l, e) = c.in-Some.ensures in
    room_there a.host.now a.process c.in-Some.at (search rules) l e

pub returns-in-None : goal.returns-in-None
returns-in-None c = room_none c.args.host.now c.args.process c.in-None.ensures
