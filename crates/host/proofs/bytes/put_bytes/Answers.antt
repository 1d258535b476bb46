use Rattle.std.proofs.Common.{ℕ, ◌+◌, List, slice_index_or, slice_set, ap, ◌∙◌, sym, arith}
use Rattle.std.proofs.lemmas.List.Edits.{paste_none, paste_more}
use Rattle.host.proofs.RowLaws.{sets_paste}
use Rattle.host.proofs.bytes.put_bytes.Goals as goal

pub loop-k-init : goal.loop-k-init
loop-k-init c = let a = c.args in (omega arith, paste_none a.bytes.now a.at a.new.now)

pub loop-k-preserved : goal.loop-k-preserved
loop-k-preserved c =
    let a = c.args in
    let l = c.loop-k in (
      omega (arith, c.loop-k-test.true),
      ap (λ (bs : List ℕ). slice_set bs (a.at + l.k) (slice_index_or a.new.now l.k 0)) l.invariant.1
          ∙ paste_more a.bytes.now a.at a.new.now l.k 0 (omega (arith, c.requires, c.loop-k-test.true)) c.loop-k-test.true,
    )

pub returns : goal.returns
returns c =
    let a = c.args in
    let l = c.loop-k in
    l.invariant.1 ∙ sym (sets_paste a.new.now a.bytes.now a.at l.k (omega (arith, l.invariant.0, c.loop-k-test.false)) (omega (arith, l.invariant.0, c.requires)))
