use Rattle.std.proofs.Common.{◌≡◌, ◌*◌, ◌<◌, ℕ, List, take, length, get_or, ap, ap₂, ◌∙◌, refl, arith, length-take, get_or-take, rules}
use Rattle.model.specs.Limits.{array_bytes}
use Rattle.host.specs.Parts.{arrays, row_in}
use Rattle.host.specs.Holding.{entry}
use lib.Seq.{sets}
use Rattle.host.proofs.SleeperLaws.{bytes_write, write_away, take_there}
use Rattle.host.proofs.sleepers.store_array.Goals as goal

pub returns-in-Some : goal.returns-in-Some
returns-in-Some c =
    let a = c.args in
    let (l, e) = c.in-Some.ensures in
    let stored : take c.min-size.result a.bytes.now ≡ take array_bytes a.bytes.now = ap (λ (n : ℕ). take n a.bytes.now) c.min-size.ensures ∙ take_there array_bytes a.bytes.now in
    let n = length-take array_bytes a.bytes.now in
    let small : (i : ℕ) → i < length (take array_bytes a.bytes.now) → get_or (take array_bytes a.bytes.now) i 0 < 256 =
    λ i m. rw (get_or-take array_bytes a.bytes.now i 0 (omega (arith, n, m))) (c.type_inv.bytes i).fits in
    ap row_in c.put_bytes.ensures ∙ ap₂ (λ (k : ℕ) (vs : List ℕ). row_in (sets a.host.now k vs)) e stored
    ∙ bytes_write arrays refl (take array_bytes a.bytes.now) (array_bytes * entry a.process) a.host.now (search rules) (omega (arith, n)) small

pub returns-in_default : goal.returns-in_default
returns-in_default c =
    let a = c.args in
    write_away arrays a.host.now (array_bytes * entry a.process) (take array_bytes a.bytes.now) (omega (arith, c.in_default.ensures))
