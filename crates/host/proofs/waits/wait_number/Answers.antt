use Rattle.host.specs.Waits.{wait_number}
use Rattle.host.proofs.waits.wait_number.Goals as goal

pub returns-in-None : goal.returns-in-None
unfolding wait_number
returns-in-None c = rw c.in-None.is

pub returns-in-Some : goal.returns-in-Some
unfolding wait_number
returns-in-Some c = rw c.in-Some.is
