use native.Mathlib.Omega.{arith}
use Rattle.host.specs.Parts.{order}
use Rattle.host.proofs.PartLaws.{length_part}
use Rattle.service_queue.proofs.MovingLaws.{moving_more}
use Rattle.service_queue.proofs.move_up.Goals as goal

pub loop-i-preserved : goal.loop-i-preserved
loop-i-preserved c =
    let l = c.loop-i in
    moving_more l.invariant (omega (arith, length_part order c.args.host.now, c.requires.1)) c.loop-i-test.true
    c.process_at-next.ensures c.put_process.ensures
