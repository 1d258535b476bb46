use Rattle.std.proofs.Common.{◌≡◌, ◌≤◌, length}
use lib.Seq.{paste}
use Rattle.host.proofs.bytes.put_bytes.Given as goal

-- `host::bytes::put_bytes` meets its contract. The loop's invariant: the first k of the new bytes stand there.
abbrev pub invariant-loop-k : goal.invariant-loop-k
invariant-loop-k l = (l.k ≤ length l.new) × (l.bytes ≡ paste l.initial.bytes l.at l.new l.k)
