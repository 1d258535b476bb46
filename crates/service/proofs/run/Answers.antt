use mir.Val.{SFits}
use Rattle.std.proofs.Common.{◌≡◌, ◌*◌, length, ap, to_z-of_z, w32, rules}
use Rattle.model.specs.Limits.{semaphores}
use Rattle.model.specs.Events.{event}
use Rattle.host.specs.Holding.{host_in}
use Rattle.service.specs.After.{tells}
use Rattle.service.proofs.ReplyLaws.{seen, left_is, read}
use Rattle.service.proofs.run.Goals as goal

pub returns-in-Create : goal.returns-in-Create
unfolding event
returns-in-Create c =
    record { result_after = rw c.in-Create.is (ap tells c.create.ensures); numbers_after = rw c.in-Create.is }

pub returns-in-Operate : goal.returns-in-Operate
unfolding event
returns-in-Operate c =
    let e0 : SFits w32 c.in-Operate.identifier = search rules in
    record { result_after = rw c.in-Operate.is (ap tells (rw (to_z-of_z e0) at c.operate.ensures)); numbers_after = rw c.in-Operate.is }

pub returns-in-SetValue : goal.returns-in-SetValue
unfolding event
returns-in-SetValue c =
    let e0 : SFits w32 c.in-SetValue.identifier = search rules in
    let e1 : SFits w32 c.in-SetValue.value = search rules in
    record { result_after = rw c.in-SetValue.is (ap tells (rw (to_z-of_z e0, to_z-of_z e1) at c.set_value.ensures)); numbers_after = rw c.in-SetValue.is }

pub returns-in-Remove : goal.returns-in-Remove
unfolding event
returns-in-Remove c =
    let e0 : SFits w32 c.in-Remove.identifier = search rules in
    record { result_after = rw c.in-Remove.is (ap tells (rw (to_z-of_z e0) at c.remove.ensures)); numbers_after = rw c.in-Remove.is }

pub returns-in-Signal : goal.returns-in-Signal
unfolding event
returns-in-Signal c =
    record { result_after = rw c.in-Signal.is (ap tells c.signal.ensures); numbers_after = rw c.in-Signal.is }

pub returns-in-Exit : goal.returns-in-Exit
unfolding event
returns-in-Exit c =
    record { result_after = rw c.in-Exit.is (ap tells c.exit.ensures); numbers_after = rw c.in-Exit.is }

pub returns-in-Query : goal.returns-in-Query
unfolding event
returns-in-Query c =
    let e : SFits w32 c.in-Query.identifier = search rules in
    record {
      result_after = rw c.in-Query.is (seen (host_in c.args.host.now c.args.adjustments.now) c.requires _ _ _ c.clear.ensures (rw (to_z-of_z e) at c.query.ensures));
      numbers_after = rw c.in-Query.is;
    }

pub returns-in-SetAll : goal.returns-in-SetAll
unfolding event
returns-in-SetAll c =
    let e0 : SFits w32 c.in-SetAll.identifier = search rules in
    record { result_after = rw c.in-SetAll.is (ap tells (rw (to_z-of_z e0) at c.set_all.ensures)); numbers_after = rw c.in-SetAll.is }

pub returns-in-ReadAll : goal.returns-in-ReadAll
unfolding event
returns-in-ReadAll c =
    let e : SFits w32 c.in-ReadAll.identifier = search rules in
    let x = host_in c.args.host.now c.args.adjustments.now in
    let long : length c.args.numbers.now ≡ 3 * semaphores = search rules in
    let r = rw (to_z-of_z e) at c.read_all.ensures in
    record {
      result_after = rw c.in-ReadAll.is (read x c.requires _ _ _ long r c.clear-in-ReadAll.ensures);
      numbers_after = rw c.in-ReadAll.is (left_is x c.requires _ _ _ long r);
    }

pub returns-in-Clock : goal.returns-in-Clock
unfolding event
returns-in-Clock c =
    record { result_after = rw c.in-Clock.is (ap tells c.clock.ensures); numbers_after = rw c.in-Clock.is }

pub returns-in-ActAs : goal.returns-in-ActAs
unfolding event
returns-in-ActAs c =
    record { result_after = rw c.in-ActAs.is (ap tells c.act_as.ensures); numbers_after = rw c.in-ActAs.is }
