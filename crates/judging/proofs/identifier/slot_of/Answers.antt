use mir.Facts.{to_z-of_z}
use Rattle.judging.proofs.Identifiers.{slot_found, slot_none}
use Rattle.judging.proofs.identifier.slot_of.Goals as goal

-- By the sign.
pub returns-in-Ok : goal.returns-in-Ok
returns-in-Ok c = let t = rw (to_z-of_z c.ranges.identifier) at c.in-Ok.ensures in slot_found c.args.identifier t.0 t.1

pub returns-in-Err : goal.returns-in-Err
returns-in-Err c = slot_none c.args.identifier c.ranges.identifier (rw (to_z-of_z c.ranges.identifier) at c.in-Err.ensures)
