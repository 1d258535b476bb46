use mathlib.Core.Path.{ap, sym, ◌∙◌}
use Rattle.runfile.specs.Body.{event_in}
use Rattle.runfile.proofs.Sizes.{event_none}
use Rattle.runfile.proofs.bodies.event_at.Goals as goal

pub returns-in-Err : goal.returns-in-Err
returns-in-Err c = rw c.no_event.ensures (sym (event_none c.rest-body.result.now c.in-Err.ensures.1) ∙ ap event_in c.rest-body.ensures)
