use Rattle.std.proofs.Common.{◌≡◌, ◌*◌}
use lib.Seq.{sets}
use Rattle.model.specs.Events.{numbers_of}
use Rattle.model.specs.WholeSet.{reads_from}
use Rattle.service.proofs.ReadLaws.{numbers_left}
use Rattle.service.proofs.events.read_all.put_numbers.Given as goal

-- `put_numbers` meets its contract: what is written from here on, on what stands there, is all of it.
abbrev pub invariant-loop-n : goal.invariant-loop-n
invariant-loop-n l =
    (sets l.all (3 * l.n) (numbers_left l.values l.increase l.zero l.count l.n) ≡ sets l.initial.all 0 (numbers_of (reads_from l.values l.increase l.zero 0 l.count)))
