use Rattle.std.proofs.Common.{rules}
use Rattle.model.specs.Marks.{mine}
use Rattle.model.specs.Clock.{due}
use Rattle.service_queue.proofs.end_all.Goals as goal

-- `service_queue::end_all` meets its contract. Each closure tells its test of a sleeper.
pub returns-in-Removal : goal.returns-in-Removal
unfolding mine
returns-in-Removal c =
    let gone = c.end_those.ensures (mine c.in-Removal.slot) (λ h p b e. search rules) in
    rw (c.in-Removal.is) (record { host_after = gone.host_after; wakings_after = gone.wakings_after; value = gone.value })

pub returns-in-Expiry : goal.returns-in-Expiry
returns-in-Expiry c =
    let gone = c.end_those-in-Expiry.ensures (due c.in-Expiry.time) (λ h p b e. search rules) in
    rw (c.in-Expiry.is) (record { host_after = gone.host_after; wakings_after = gone.wakings_after; value = gone.value })
