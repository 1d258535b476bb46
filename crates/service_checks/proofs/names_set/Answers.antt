use mir.Facts.{to_z-of_z}
use Rattle.service_checks.proofs.FoundSets.{names_none, natural, names_free, names_live}
use Rattle.service_checks.proofs.names_set.Goals as goal

-- By the sign, then by whether the slot is free.
pub returns-in_default : goal.returns-in_default
returns-in_default c = names_none _ c.args.identifier c.ranges.identifier (rw (to_z-of_z c.ranges.identifier) at c.in_default.ensures)

pub returns-then-set-eq0 : goal.returns-then-set-eq0
returns-then-set-eq0 c =
    let t = rw (to_z-of_z c.ranges.identifier) at c.in-Ok.ensures in
    names_free _ (natural c.args.identifier t.0 t.1) c.set_at-set.ensures c.if-set-eq0.true

pub returns : goal.returns
returns c =
    let t = rw (to_z-of_z c.ranges.identifier) at c.in-Ok.ensures in
    names_live _ (natural c.args.identifier t.0 t.1) c.set_at-set.ensures c.if-set-eq0.false
