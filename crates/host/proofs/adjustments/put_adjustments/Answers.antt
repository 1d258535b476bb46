use Rattle.std.proofs.Common.{◌≡◌, ◌+◌, List, length, set, ℤ, pos, sym, ap, ◌∙◌, ap₂, arith, to_z-of_z, w16, rules}
use lib.Seq.{sets}
use borrow.Author.Rules.{sfits_of}
use Rattle.std.proofs.lemmas.List.Edits.{paste_none, paste_more}
use Rattle.model.specs.Limits.{semaphores}
use Rattle.host.specs.Rows.{undo_at}
use Rattle.host.proofs.RowLaws.{sets_paste, sets_beyond}
use Rattle.host.proofs.adjustments.put_adjustments.Goals as goal

pub loop-j-init : goal.loop-j-init
loop-j-init c = (omega arith, paste_none c.args.adjustments.now c.in-Some.start c.args.new)

pub loop-j-preserved : goal.loop-j-preserved
loop-j-preserved c =
    let a = c.args in
    let s = c.in-Some.start in
    let l = c.loop-j in
    let eight : length a.new ≡ semaphores = search rules in (
      omega (arith, eight, c.loop-j-test.true),
      ap₂ (λ (r : List ℤ) (x : ℤ). set r (s + l.j) x) l.invariant.1 (to_z-of_z {w = w16} (sfits_of c.adjustment-1.given))
          ∙ paste_more a.adjustments.now s a.new l.j (pos 0) (omega (arith, c.in-Some.ensures.1, c.told-adjustments, c.loop-j-test.true)) (omega (arith, eight, c.loop-j-test.true)),
    )

pub returns-after-loop-j : goal.returns-after-loop-j
returns-after-loop-j c =
    let a = c.args in
    let l = c.loop-j in
    let (e, h) = c.in-Some.ensures in
    let eight : length a.new ≡ semaphores = search rules in
    l.invariant.1 ∙ sym (sets_paste a.new a.adjustments.now c.in-Some.start l.j (omega (arith, eight, l.invariant.0, c.loop-j-test.false)) (omega (arith, eight, l.invariant.0, h, c.told-adjustments)))
    ∙ ap (λ k. sets a.adjustments.now k a.new) e

pub returns-in_default : goal.returns-in_default
returns-in_default c =
    let a = c.args in
    sym (sets_beyond a.new a.adjustments.now (undo_at a.process a.slot) (omega (arith, c.in_default.ensures)))
