use borrow.Author.Tests.{eq-eqb, ne_eqb}
use borrow.Author.Rules.{rules}
use mathlib.Core.Path.{sym, ◌≡◌, ◌∙◌}
use native.Mathlib.Omega.{arith}
use lib.ListN.{length}
use Rattle.model.specs.Limits.{semaphores}
use Rattle.service_table.proofs.LoopLaws.{bit_of_lem, differing_more, differing_end}
use Rattle.service_table.proofs.differing_mask.Goals as goal
use Rattle.service_table.proofs.differing_mask.Goals.{then-value-after, else-value-after}

pub loop-i-preserved : goal.loop-i-preserved
loop-i-preserved c =
    let x : length c.args.before ≡ semaphores = search rules in
    let y : length c.args.after ≡ semaphores = search rules in
    let i = c.loop-i.i in
    let more = differing_more c.loop-i.mask i c.args.before c.args.after (omega arith) (omega arith) in
    elim c.if-value-after.branch [
      | then-value-after w ↦ rw (w.mask-is, bit_of_lem i (omega arith)) (sym (rw (ne_eqb _ _ w.if-value-after.true) at more) ∙ c.loop-i.invariant)
      | else-value-after w ↦ rw w.mask-is (sym (rw (eq-eqb _ _ w.if-value-after.false) at more) ∙ c.loop-i.invariant)
    ]

pub returns : goal.returns
returns c =
    let long : length c.args.before ≡ semaphores = search rules in
    sym (differing_end _ _ _ _ (omega arith)) ∙ c.loop-i.invariant
