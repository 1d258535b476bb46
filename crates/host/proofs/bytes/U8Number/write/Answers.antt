use Rattle.std.proofs.Common.{◌≡◌, ℕ, ◌%◌, ap, set, arith}
use Rattle.host.specs.Parts.{bytes_of}
use Rattle.host.proofs.bytes.U8Number.write.Goals as goal

pub returns-clause-written : goal.returns-clause-written
unfolding bytes_of
returns-clause-written c =
    let a = c.args in
    let e : a.self ≡ a.self % 256 = omega arith in
    ap (λ (x : ℕ). set a.bytes.now a.at x) e
