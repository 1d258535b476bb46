use mathlib.Core.Bool.{true, false}
use lib.IntN.{pos, negsuc, ◌-ℤ◌}
use mir.Facts.{to_z-of_z}
use Rattle.model.specs.Judge.{next_adjustment}
use Rattle.judging.proofs.Signed.{difference_is, between, at_most}
use Rattle.judging.proofs.amount.next_adjustment.Goals as goal
use Rattle.judging.proofs.amount.next_adjustment.Goals.{else-new-ge-LEAST-via-then-new-ge-LEAST+else-new-le-MOST, else-new-ge-LEAST-via-else-new-ge-LEAST}

-- The code's two tests of at most are the definition's two of less, on the difference as a number.
pub returns-then-new-le-MOST : goal.returns-then-new-le-MOST
unfolding next_adjustment
returns-then-new-le-MOST c =
    let e = difference_is c.ranges.adjustment c.ranges.amount in
    let new = c.args.adjustment -ℤ c.args.amount in
    let b = at_most (negsuc 32766) new true (rw e at c.if-new-ge-LEAST.true) in
    let t = at_most new (pos 32767) true (rw e at c.if-new-le-MOST.true) in
    rw (e, to_z-of_z (between new b t), b, t)

pub returns-else-new-ge-LEAST : goal.returns-else-new-ge-LEAST
unfolding next_adjustment
returns-else-new-ge-LEAST c =
    let e = difference_is c.ranges.adjustment c.ranges.amount in
    let new = c.args.adjustment -ℤ c.args.amount in
    elim c.else-new-ge-LEAST.branch [
      | else-new-ge-LEAST-via-then-new-ge-LEAST+else-new-le-MOST w ↦
          rw (at_most (negsuc 32766) new true (rw e at w.if-new-ge-LEAST.true), at_most new (pos 32767) false (rw e at w.if-new-le-MOST.false))
      | else-new-ge-LEAST-via-else-new-ge-LEAST w ↦ rw (at_most (negsuc 32766) new false (rw e at w.if-new-ge-LEAST.false))
    ]
