use Rattle.std.proofs.Common.{◌≡◌, length, refl, arith, rules}
use Rattle.model.specs.Limits.{semaphores}
use Rattle.model.specs.State.{row}
use Rattle.host.specs.Parts.{values}
use Rattle.host.proofs.SleeperLaws.{write_none, write_more, write_all, write_away}
use Rattle.host.proofs.semaphores.put_values.Goals as goal

pub loop-j-init : goal.loop-j-init
loop-j-init c = write_none values _ _ _ (search rules)

pub loop-j-preserved : goal.loop-j-preserved
loop-j-preserved c = write_more values c.loop-j.invariant _ (search rules) refl (search rules) (c.put.ensures values refl)

pub returns-after-loop-j : goal.returns-after-loop-j
returns-after-loop-j c =
    let eight : length c.args.new ≡ semaphores = search rules in
    write_all values c.loop-j.invariant (omega arith)

pub returns-else-slot-lt-SETS : goal.returns-else-slot-lt-SETS
returns-else-slot-lt-SETS c =
    let a = c.args in
    write_away values a.host.now (row a.slot) a.new (omega arith)
