use Prim.Native.Nat.{◌+◌, ◌*◌, ◌^◌, ◌<◌}
use mathlib.Core.Path.{◌≡◌}
use native.Mathlib.Omega.{arith}
use lib.ListN.{get_or}
use lib.Seq.{length-take-le}
use Rattle.std.proofs.lemmas.List.{get_or-take}
use Rattle.lines.specs.Text.{numbers_text}
use Rattle.lines.specs.Buffer.{number_bytes}
use Rattle.lines.proofs.Decimal.{marked_digits}
use Rattle.lines.proofs.Writing.{nothing, also}
use Rattle.lines.proofs.NumberRows.{numbers_more}
use Rattle.lines.proofs.all_numbers.Goals as goal

pub loop-n-init : goal.loop-n-init
unfolding numbers_text
loop-n-init c = nothing c.args.line.now (omega arith)

pub loop-n-preserved : goal.loop-n-preserved
loop-n-preserved c =
    let l = c.loop-n in
    let ns = c.args.numbers.now in
    let here : l.n-index < c.min.result = omega (arith, length-take-le c.min.result ns (omega arith)) in
    let number = rw (get_or-take c.min.result ns l.n-index 0 here) at c.marked.ensures in
    let small : get_or ns l.n-index 0 < 2 ^ 64 = omega (arith, c.fits-numbers l.n-index) in
    let more : number_bytes * (l.n-index + 1) ≡ number_bytes * l.n-index + number_bytes = omega arith in
    rw (more, numbers_more ns l.n-index (omega arith)) (also l.invariant (marked_digits number small))
