use mathlib.Core.Path.{sym}
use mir.Facts.{to_z-of_z}
use Rattle.vairolent.proofs.Calls.{handed}
use Rattle.vairolent.proofs.vairolent_set_value_in.Goals as goal

-- the signed numbers go to the service through their 32 bits, and come back as they were
pub returns : goal.returns
returns c = rw (sym (to_z-of_z c.ranges.identifier), sym (to_z-of_z c.ranges.value)) (handed c.into.ensures c.set_value.ensures)
