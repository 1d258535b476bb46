use mathlib.Core.Path.{◌∙◌}
use Rattle.runfile.specs.Body.{handed_in}
use Rattle.runfile.proofs.Sizes.{hands_none}
use Rattle.runfile.proofs.bodies.handed_at.Goals as goal

pub returns-in-Ok : goal.returns-in-Ok
unfolding handed_in
returns-in-Ok c = let p = c.in-Ok.ensures in rw (c.first.ensures, c.rest.ensures, p.0, p.1, c.rest-body.ensures)

pub returns-in-Err : goal.returns-in-Err
returns-in-Err c = rw (← c.rest-body.ensures) (c.first-in-Err.ensures ∙ hands_none c.rest-body.result.now c.in-Err.ensures.1)
