use native.Mathlib.Omega.{arith}
use mathlib.Core.Path.{◌≡◌, sym, ◌∙◌}
use borrow.Author.Rules.{rules}
use lib.ListN.{length, get_or}
use lib.IntN.{pos}
use Rattle.std.proofs.lemmas.List.{ext_get_or}
use Rattle.model.specs.Limits.{semaphores}
use Rattle.model.specs.Events.{cut, undo_all}
use Rattle.service_table.proofs.UndoLaws.{length_undone, undone_at}
use Rattle.service_table.proofs.cut_all.Goals as goal

pub returns : goal.returns
returns c =
    let a = c.args in
    let r = c.from_fn.ensures.items in
    let v : length a.values ≡ semaphores = search rules in
    let u : length a.undo ≡ semaphores = search rules in
    ext_get_or 0 c.from_fn.result (undo_all a.values a.undo) (r.long ∙ sym v ∙ sym (length_undone a.values a.undo)) (λ k h.
    let (s, q, called) = r.at k 0 (omega (arith, r.long)) in
    let each : get_or c.from_fn.result k 0 ≡ cut (get_or a.values k 0) (get_or a.undo k (pos 0)) = search rules in
    each ∙ sym (undone_at a.values a.undo k (omega (arith, r.long)) (omega (arith, r.long))))
