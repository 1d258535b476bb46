use Rattle.std.proofs.Common.{refl, arith, rules}
use Rattle.model.specs.Limits.{semaphores}
use Rattle.model.specs.State.{row}
use Rattle.host.specs.Parts.{lasts}
use Rattle.host.proofs.SemaphoreLaws.{mask_none, mask_more, mask_kept, mask_all, mask_beyond, bit_on, bit_off}
use Rattle.host.proofs.semaphores.put_lasts.Goals as goal
use Rattle.host.proofs.semaphores.put_lasts.Goals.{then-on-ne0, else-on-ne0}

pub loop-j-init : goal.loop-j-init
loop-j-init c = mask_none lasts semaphores _ _ _ _ (search rules)

pub loop-j-preserved : goal.loop-j-preserved
loop-j-preserved c =
    let l = c.loop-j in
    let a = c.args in
    let n = c.loop-j-test.true in
    elim c.if-on-ne0.branch [
      | then-on-ne0 w ↦ rw w.host-is (mask_more lasts semaphores (row a.slot) a.mask a.process a.host.now l.host l.j l.invariant n _ (bit_on a.mask l.j n w.if-on-ne0.true) (search rules) (w.put.ensures lasts refl))
      | else-on-ne0 w ↦ rw w.host-is (mask_kept lasts semaphores (row a.slot) a.mask a.process a.host.now l.host l.j l.invariant n (bit_off a.mask l.j n w.if-on-ne0.false))
    ]

pub returns-after-loop-j : goal.returns-after-loop-j
returns-after-loop-j c =
    let a = c.args in
    mask_all lasts semaphores (row a.slot) a.mask a.process a.host.now c.loop-j.host c.loop-j.j c.loop-j.invariant c.loop-j-test.false

pub returns-else-slot-lt-SETS : goal.returns-else-slot-lt-SETS
returns-else-slot-lt-SETS c =
    let a = c.args in
    mask_beyond lasts semaphores (row a.slot) a.mask a.process a.host.now (omega arith)
