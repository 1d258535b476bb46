use Prim.Native.Nat.{◌*◌}
use Rattle.wakings.specs.Wakings.{places_in, wakings_in}
use Rattle.lines.specs.Text.{wakings_text}
use Rattle.lines.specs.Buffer.{Wrote, waking_bytes}
use Rattle.lines.proofs.all_woken.Given as goal

-- `lines::all_woken` meets its contract. The loop's invariant: the first `k` wakings are written.
abbrev pub invariant-loop-k : goal.invariant-loop-k
invariant-loop-k l = Wrote (waking_bytes * l.k) l.initial.line (wakings_text (wakings_in l.k (places_in l.list))) l.line
