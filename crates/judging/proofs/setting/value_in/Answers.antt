use mathlib.Core.Path.{◌∙◌, sym, ap}
use native.Mathlib.Omega.{arith}
use borrow.Author.Rules.{rules}
use mir.Syntax.{w32}
use mir.Val.{SFits}
use mir.Facts.{to_z-of_z}
use Prim.Native.Nat.{◌/◌, ◌<◌}
use lib.ListN.{length}
use mathlib.Core.List.{[]}
use Rattle.judging.specs.Value.{value_of}
use Rattle.judging.proofs.Settings.{of_piece, value_first, value_none}
use Rattle.judging.proofs.setting.value_in.Goals as goal

pub returns-in-Some : goal.returns-in-Some
returns-in-Some c =
    let b = c.args.bytes.now in
    let f : SFits w32 c.value_at.result = search rules in
    let found = c.in-Some.ensures.lookup in
    let h : c.args.i < length b / 4 = omega (arith, found.3.0) in
    c.value_of.ensures
    ∙ ap value_of (to_z-of_z f ∙ c.value_at.ensures ∙ rw (found.3.1 []) (of_piece b _ c.args.i [] c.as_chunks.ensures.front h))
    ∙ sym (value_first b c.args.i h)

pub returns-in-None : goal.returns-in-None
returns-in-None c = sym (value_none c.args.bytes.now c.args.i (omega (arith, c.in-None.ensures.lookup.3)))
