use Rattle.std.proofs.Common.{◌≡◌, ◌+◌, ◌-◌, ◌*◌, ℕ, List, min, length, replicate, ap, ◌∙◌, refl, arith, rules}
use lib.ListN.{length-replicate}
use native.Mathlib.Nat.{min_comm, min-le_left}
use Rattle.std.specs.List.{between}
use Rattle.std.proofs.lemmas.List.Edits.{length-between}
use Rattle.model.specs.Limits.{array_bytes}
use Rattle.host.specs.Parts.{arrays, row_in}
use Rattle.host.specs.Holding.{entry}
use Rattle.host.proofs.RowLaws.{sets_part}
use Rattle.host.proofs.SleeperLaws.{bytes_write, write_away, zeros_at}
use Rattle.host.proofs.sleepers.clear_array.Goals as goal

pub returns-in-Some : goal.returns-in-Some
returns-in-Some c =
    let a = c.args in
    let (l, e) = c.in-Some.ensures in
    let at = c.in-Some.at in
    let n = c.min.result in
    let zeros : List ℕ = replicate (min array_bytes a.size) 0 in
    let fits : n ≡ min array_bytes a.size = c.min.ensures ∙ min_comm a.size array_bytes in
    let less = min-le_left array_bytes a.size in
    let long : length zeros ≡ at + n - at = omega (arith, length-replicate {A = ℕ} (min array_bytes a.size) 0, fits) in
    let lent : length (between at (at + n) a.host.now) ≡ min array_bytes a.size = length-between a.host.now at (at + n) (omega arith) ∙ omega (arith, fits) in
    let filled : c.fill.new.self ≡ zeros = c.fill.ensures.after (λ y k. k) ∙ ap (λ (k : ℕ). replicate k 0) lent in
    ap row_in (sets_part zeros a.host.now _ at _ filled long (omega arith) ∙ rw e)
    ∙ bytes_write arrays refl zeros (array_bytes * entry a.process) a.host.now (search rules) (omega (arith, long)) (λ i m. omega (arith, zeros_at (min array_bytes a.size) i))

pub returns-in_default : goal.returns-in_default
returns-in_default c =
    let a = c.args in
    write_away arrays a.host.now (array_bytes * entry a.process) (replicate (min array_bytes a.size) 0) (omega (arith, c.in_default.ensures))
