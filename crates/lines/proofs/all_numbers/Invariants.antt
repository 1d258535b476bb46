use Prim.Native.Nat.{◌*◌}
use lib.ListN.{take}
use Rattle.lines.specs.Text.{numbers_text}
use Rattle.lines.specs.Buffer.{Wrote, number_bytes}
use Rattle.lines.proofs.all_numbers.Given as goal

-- `lines::all_numbers` meets its contract. The loop's invariant: the numbers up to here are written.
abbrev pub invariant-loop-n : goal.invariant-loop-n
invariant-loop-n l = Wrote (number_bytes * l.n-index) l.initial.line (numbers_text (take l.n-index l.numbers)) l.line
