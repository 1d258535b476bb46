use Rattle.std.proofs.Common.{refl, sym, ◌∙◌}
use Rattle.std.proofs.lemmas.Bool.{false≢true}
use Rattle.host.specs.Holding.{host_in}
use Rattle.service.proofs.WaitingLaws.{walked_none, walked_by, walked_more, walked_not, walked_all, within_again, stops_somewhere}
use Rattle.service.proofs.waiting.waiting.Goals as goal
use Rattle.service.proofs.waiting.waiting.Goals.{then-sleeps_at+in-Some, then-sleeps_at+in_default, else-sleeps_at}

pub loop-n-init : goal.loop-n-init
loop-n-init c = walked_none (host_in c.args.host.now c.args.adjustments.now) c.requires c.args.slot.index

pub judge_one-requires : goal.judge_one-requires
judge_one-requires c =
    let x = host_in c.args.host.now c.args.adjustments.now in
    walked_not x c.requires c.args.slot.index c.loop-n.invariant

pub loop-n-preserved : goal.loop-n-preserved
loop-n-preserved c =
    elim c.if-sleeps_at.branch [
      | then-sleeps_at+in-Some w ↦
          let stop = w.in-Some.ensures in
          let told = rw (w.bit_of.ensures, stop.amount_value, within_again _ stop.number_value) at w.wait_at.ensures in
          rw (w.increase-is, w.zero-is, w.judged-is, stop.judged_after)
          (walked_more (host_in c.args.host.now c.args.adjustments.now) c.requires c.args.slot.index c.args.slot.there_is c.loop-n.invariant c.loop-n-test.true c.sleeps_at.ensures
          w.if-sleeps_at.true c.values_of-values.ensures refl told.increase_after told.zero_after)
      | then-sleeps_at+in_default w ↦
          let stops =
          stops_somewhere (host_in c.args.host.now c.args.adjustments.now) c.requires c.args.slot.index c.args.slot.there_is c.loop-n.invariant c.loop-n-test.true c.sleeps_at.ensures
          w.if-sleeps_at.true c.values_of-values.ensures in
          absurd (false≢true (sym (w.in_default.ensures.none_value ∙ stops)))
      | else-sleeps_at w ↦
          rw (w.increase-is, w.zero-is, w.judged-is)
          (walked_by (host_in c.args.host.now c.args.adjustments.now) c.requires c.args.slot.index c.args.slot.there_is c.loop-n.invariant c.loop-n-test.true c.sleeps_at.ensures
          w.if-sleeps_at.false)
    ]

pub returns : goal.returns
returns c = walked_all (host_in c.args.host.now c.args.adjustments.now) c.requires c.args.slot.index c.loop-n.invariant c.loop-n-test.false
