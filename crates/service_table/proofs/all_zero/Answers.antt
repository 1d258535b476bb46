use Rattle.std.proofs.Common.{◌≡◌, Bool, List, [], ◌∷◌, ◌∙◌, refl, ap, ◌&&◌, ℤ, rules, tests}
use Rattle.std.specs.List.{list_all}
use Rattle.std.proofs.lemmas.Iterator.{YieldsList-from_slice}
use Rattle.std.proofs.lemmas.Iterator.Search.{all_from_yields_List}
use Rattle.model.specs.Operation.{is_zero}
use Rattle.service_table.specs.Written.{all_zero}
use Rattle.service_table.proofs.all_zero.Goals as goal

same : (us : List ℤ) → list_all is_zero us ≡ all_zero us
unfolding all_zero
same [] = refl
same (u ∷ us) = ap (λ (b : Bool). is_zero u && b) (same us)

pub returns : goal.returns
unfolding is_zero
returns c = all_from_yields_List is_zero _ _ _ c.all.ensures.ran (YieldsList-from_slice c.args.undo cc) (λ x b q k. search (rules, tests)) ∙ same c.args.undo
