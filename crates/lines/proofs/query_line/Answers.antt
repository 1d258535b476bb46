use mathlib.Core.Path.{sym, ◌∙◌}
use borrow.Author.Rules.{rules}
use Rattle.lines.proofs.Writing.{line, no_line_lem}
use Rattle.lines.proofs.query_line.Goals as goal

pub returns-then-not-has_room-clause-out_after : goal.returns-then-not-has_room-clause-out_after
returns-then-not-has_room-clause-out_after c = (no_line_lem c.args.out.now _ c.args.at (sym c.has_room.ensures ∙ c.if-not-has_room.true)).0

pub returns-clause-out_after : goal.returns-clause-out_after
returns-clause-out_after c =
    let written = line (sym c.has_room.ensures ∙ c.if-not-has_room.false) c.queried.ensures in
    search (rules, written.0)
