use Prim.Native.Nat.{◌≤◌, ◌<◌}
use native.Mathlib.Omega.{arith}
use mathlib.Core.Path.{sym, ◌∙◌}
use lib.ListN.{length}
use Rattle.host.specs.Parts.{row_in}
use Rattle.host.specs.Holding.{queue_in}
use Rattle.service_queue.proofs.EndingLaws.{held_without, one_less, ended_one, ended_other, taken_all, listed_all, counted_all}
use Rattle.service_queue.proofs.end_those.Goals as goal
use Rattle.service_queue.proofs.end_those.Goals.{then-ended, else-ended}

pub loop-preserved : goal.loop-preserved
loop-preserved g c =
    let v = c.loop.invariant in
    let there : c.loop.at < length (queue_in (row_in c.loop.host)) = omega (arith, v.1, c.loop-test.true) in
    let p = c.process_at-process.ensures in
    elim c.if-ended.branch [
      | then-ended w ↦
          let less = one_less v.0 there w.take_out.ensures in
          rw (w.host-is, w.wakings-is, w.woken-is, w.at-is) (
            held_without v.0 there w.take_out.ensures,
            omega (arith, v.1, less),
            omega (arith, v.2, less),
            λ test tells. ended_one _ _ (v.3 test tells) there p w.take_out.ensures (sym (tells _ _ _ (record { met = c.ended.ensures })) ∙ w.if-ended.true) w.note.ensures,
          )
      | else-ended w ↦ rw (w.host-is, w.wakings-is, w.woken-is, w.at-is) (
        v.0,
        omega (arith, v.1),
        v.2,
        λ test tells. ended_other _ _ (v.3 test tells) there p (sym (tells _ _ _ (record { met = c.ended.ensures })) ∙ w.if-ended.false),
      )
    ]

pub returns : goal.returns
returns g c = λ test tells.
    let v = c.loop.invariant.3 test tells in
    let h : length (queue_in (row_in c.loop.host)) ≤ c.loop.at = omega (arith, c.loop.invariant.1, c.loop-test.false) in
    record { host_after = taken_all _ _ v h; wakings_after = listed_all _ _ v h; value = counted_all _ _ v h }
