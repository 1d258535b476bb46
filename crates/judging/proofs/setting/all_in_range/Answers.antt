use Rattle.std.proofs.Common.{List, ℕ, ◌∙◌, rules, tests}
use Rattle.std.proofs.lemmas.Iterator.{YieldsList-from_slice}
use Rattle.std.proofs.lemmas.Int.{to_z-of_z}
use Rattle.std.proofs.lemmas.Iterator.Search.{all_from_yields_List}
use Rattle.model.specs.Checks.{in_range}
use Rattle.model.specs.Values.{value_at}
use Rattle.judging.proofs.Settings.{pieces_in_range}
use Rattle.judging.proofs.setting.all_in_range.Goals as goal

pub returns : goal.returns
returns c =
    all_from_yields_List (λ (p : List ℕ). in_range (value_at p 0)) _ _ _ c.all.ensures.ran (YieldsList-from_slice c.as_chunks.result.0.now c.iter.ensures.rest) (λ x b q k. search (rules, tests, to_z-of_z))
    ∙ pieces_in_range c.args.bytes.now c.as_chunks.result.0.now c.as_chunks.ensures.front
