use mathlib.Core.Path.{◌≡◌}
use Rattle.model.specs.State.{Sleeper}
use Rattle.host.specs.Parts.{row_in}
use Rattle.host.specs.Holding.{Kept, kept, time_in}
use Rattle.host.proofs.QueueRows.{with_entry}
use Rattle.service_queue.proofs.QueueHeldLaws.{kept_written, joined_behind}
use Rattle.service_queue.proofs.fall_asleep.Goals as goal
use Rattle.service_queue.proofs.fall_asleep.Goals.{After-put_wait}

-- the sleeper that joins
abbrev joins : After-put_wait → Sleeper
joins c = record { process = c.args.process; slot = c.args.slot; array = c.args.bytes.now; start = time_in (row_in c.args.host.now); wait = c.args.wait }

-- its process has its numbers
written : (c : After-put_wait) → row_in c.put_wait.new.host ≡ with_entry kept c.args.process (λ (k : Kept). k.of (joins c)) (row_in c.store_array.new.host)
written c =
    kept_written (row_in c.store_array.new.host) (joins c) _ _ _ c.put_call.ensures c.put_wait.ensures c.requires.names_value c.time_of-start.ensures c.wait_number.ensures

pub returns : goal.returns
returns c =
    joined_behind c.requires.queue_held c.requires.room c.requires.all c.requires.host_len_bound c.store_array.ensures (written (goal.at.returns c).After-put_wait)
    c.asleep_of-n.ensures c.put_process.ensures c.put_asleep.ensures
