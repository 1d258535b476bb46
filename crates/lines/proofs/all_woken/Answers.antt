use Prim.Native.Nat.{ℕ, ◌+◌, ◌*◌, min}
use mathlib.Core.Path.{◌≡◌, sym, ap}
use mathlib.Core.List.{List, map}
use native.Mathlib.Omega.{arith}
use lib.ListN.{length}
use Rattle.std.proofs.lemmas.List.{take_min}
use Rattle.wakings.specs.Wakings.{Place, places_in, no_waking, waking_in, wakings_in}
use Rattle.wakings.proofs.ListLaws.{length_in}
use Rattle.lines.specs.Text.{wakings_text}
use Rattle.lines.specs.Buffer.{waking_bytes}
use Rattle.lines.proofs.Writing.{nothing, also, at_most}
use Rattle.lines.proofs.Wakings.{wakings_more}
use Rattle.lines.proofs.all_woken.Goals as goal

-- no more are in a list than there are
wakings_most : (n : ℕ) (xs : List Place) → wakings_in n xs ≡ wakings_in (min n (length xs)) xs
unfolding wakings_in
wakings_most n xs = ap (map waking_in) (sym (take_min n xs))

pub loop-k-init : goal.loop-k-init
unfolding wakings_text wakings_in
loop-k-init c = nothing c.args.line.now (omega arith)

pub loop-k-preserved : goal.loop-k-preserved
loop-k-preserved c =
    let l = c.loop-k in
    let xs = places_in c.args.list.now in
    let more : waking_bytes * (l.k + 1) ≡ waking_bytes * l.k + waking_bytes = omega arith in
    let here = rw (c.process_of.ensures, c.code_of.ensures, c.position_of.ensures) at c.woke.ensures in
    rw (more, wakings_more xs l.k no_waking (omega (arith, length_in c.args.list.now))) (also l.invariant here)

pub returns : goal.returns
returns c =
    let l = c.loop-k in
    let xs = places_in c.args.list.now in
    let all : length xs ≡ 8 = length_in c.args.list.now in
    let most : l.k ≡ min c.args.count (length xs) = omega arith in
    rw (wakings_most c.args.count xs, ← most) (at_most l.invariant (omega arith))
