use Prim.Native.Nat.{ℕ, ◌-◌}
use mathlib.Core.Path.{◌≡◌, ap, ◌∙◌}
use Rattle.host.specs.Parts.{Row, row_in}
use Rattle.host.specs.Holding.{with_wait}
use Rattle.service_queue.proofs.QueueHeldLaws.{awoken, taken_out}
use Rattle.service_queue.proofs.take_out.Goals as goal
use Rattle.service_queue.proofs.take_out.Goals.{After-put_wait}

-- what its process has is 0
awake : (c : After-put_wait) → row_in c.put_wait.new.host ≡ awoken c.process_at-process.result (row_in c.args.host.now)
awake c = c.put_wait.ensures ∙ ap (λ (r : Row). with_wait r c.process_at-process.result 0 0) c.put_call.ensures

pub returns : goal.returns
returns c =
    let a = (goal.at.returns c).After-put_wait in
    taken_out c.requires.queue_held c.args.at c.requires.at_in_bounds c.process_at-process.ensures (awake a)
    c.size_at-size.ensures (ap (λ (n : ℕ). n - 1) c.asleep_of-last.ensures) c.move_up.ensures c.put_asleep.ensures c.clear_array.ensures
