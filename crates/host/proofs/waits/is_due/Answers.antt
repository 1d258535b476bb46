use Rattle.std.proofs.Common.{sym, ap, leb, ◌-◌, ◌∙◌}
use Rattle.host.proofs.WaitLaws.{never_over, not_begun, over_difference}
use Rattle.host.proofs.waits.is_due.Goals as goal

pub returns-in_default : goal.returns-in_default
returns-in_default c =
    let w = c.wait_at in
    rw (← w.ensures) (sym (never_over c.args.time _ w.result c.in_default.ensures))

pub returns-in_default-checked_sub : goal.returns-in_default-checked_sub
returns-in_default-checked_sub c =
    let w = c.wait_at in
    let s = c.start_at in
    rw (← w.ensures, ← s.ensures) (sym (not_begun c.args.time s.result w.result c.in-Some.ensures.0 c.in_default-checked_sub.ensures))

pub returns : goal.returns
returns c =
    let w = c.wait_at in
    let s = c.start_at in
    let some = c.in-Some.ensures in
    let begun = c.in-Some-checked_sub.ensures in
    rw (some.1, ← w.ensures, ← s.ensures) (ap (leb (w.result - 1)) begun.1 ∙ sym (over_difference c.args.time s.result w.result some.0 begun.0))
