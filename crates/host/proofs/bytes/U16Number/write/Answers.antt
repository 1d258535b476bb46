use Rattle.std.proofs.Common.{ℕ, List, ap, ◌∙◌}
use lib.Seq.{sets}
use Rattle.host.proofs.Numbers.{bytes_written}
use Rattle.host.proofs.bytes.U16Number.write.Goals as goal

pub returns-clause-written : goal.returns-clause-written
returns-clause-written c =
    let a = c.args in
    c.put_bytes.ensures ∙ ap (λ (l : List ℕ). sets a.bytes.now a.at l) (c.to_le_bytes.ensures ∙ bytes_written 2 a.self)
