use mathlib.Core.Path.{ap, ◌∙◌}
use mathlib.Core.List.{List}
use lib.ListN.{replicate}
use Rattle.std.specs.Prelude.{unwrap_or}
use native.Mathlib.Nat.{le_refl}
use Prim.Native.Nat.{ℕ}
use Rattle.wakings.specs.Wakings.{place_at}
use Rattle.wakings.proofs.ListLaws.{piece_at}
use Rattle.wakings.proofs.place_at.Goals as goal

pub returns : goal.returns
returns c =
    let found = c.get.ensures.lookup.4 (le_refl c.args.at) _ in
    ap (λ (x : List ℕ). place_at x 0) (c.unwrap_or.ensures ∙ ap (λ o. unwrap_or o (replicate 4 0)) c.copied.ensures ∙ found)
    ∙ piece_at c.args.list.now _ c.args.at c.told-list c.as_chunks.ensures.front
