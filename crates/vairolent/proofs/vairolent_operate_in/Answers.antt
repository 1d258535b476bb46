use mathlib.Core.Path.{sym}
use mir.Facts.{to_z-of_z}
use Rattle.vairolent.proofs.Calls.{handed}
use Rattle.vairolent.proofs.vairolent_operate_in.Goals as goal

-- the signed number goes to the service through its 32 bits, and comes back as it was
pub returns : goal.returns
returns c = rw (sym (to_z-of_z c.ranges.identifier), ← c.wait_of.ensures) (handed c.into.ensures c.operate.ensures)
