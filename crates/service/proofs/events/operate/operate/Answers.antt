mod Laws
use Rattle.std.proofs.Common.{◌≡◌, ℕ, length, rules, ◌<◌, cond, eqb, sym, refl, ap, ◌∙◌, arith, to_z-of_z}
use mir.Syntax.{w32}
use Rattle.model.specs.Limits.{semaphores}
use Rattle.model.specs.State.{Sleeper}
use Rattle.model.specs.Operation.{operations_of}
use Rattle.model.specs.Marks.{named_by}
use Rattle.model.specs.Checks.{slot_of, check_operate}
use Rattle.model.specs.Look.{values_of, adjustments_of, applied}
use Rattle.model.specs.Events.{call, do_operate}
use Rattle.host.specs.Holding.{Host, host_in, state_in, table_in, time_in}
use Rattle.judging.specs.Named.{named_within}
use Rattle.judging.proofs.NamedLaws.{named_within_lem}
use Rattle.judging.proofs.WalkLaws.{walked}
use Rattle.service_checks.proofs.FoundSets.{slot_within}
use Rattle.service_table.specs.Numbered.{Numbered}
use Rattle.service_table.specs.Written.{tabled, with_copies}
use Rattle.service_table.proofs.WrittenLaws.{sized_good, copies_applied}
use Rattle.service_waking.specs.Lent.{JudgedAs, treated}
use Rattle.service_waking.proofs.LookLaws.{values_in_lem, undo_read, judged_as}
use Rattle.service.proofs.EventLaws.{held_invariant, held_row, held_seated, refused_after, begun, begun_ready}
use Rattle.service.proofs.events.operate.operate.Answers.Laws.{call_process, call_numbered, call_room, call_awake, call_few, done_lent, done_ready, done_after, stopped_after, would_sleep_after}
use Rattle.service.proofs.events.operate.operate.Goals as goal
use Rattle.service.proofs.events.operate.operate.Goals.{After-judge-verdict}

-- the host that is lent
abbrev x : After-judge-verdict → Host
x c = host_in c.args.host.now c.args.adjustments.now

-- the call that is made
abbrev made : After-judge-verdict → Sleeper
made c = call (time_in (x c).row) c.args.process c.args.identifier c.args.wait c.args.bytes.now

-- no check applies
passes : (c : After-judge-verdict) → check_operate (state_in (x c)) c.args.process c.args.identifier c.args.bytes.now ≡ 0
passes c = sym (rw (to_z-of_z c.ranges.identifier) at (c.in-Ok.ensures.code_value c.args.adjustments.now))

slot : (c : After-judge-verdict) → c.slot_of-slot.result ≡ slot_of c.args.identifier
slot c = rw (to_z-of_z c.ranges.identifier) at c.slot_of-slot.ensures

slot_is : (c : After-judge-verdict) → c.slot_of-slot.result < 4
slot_is c = rw (slot c) (slot_within c.args.identifier)

-- the copies as they were read
values-are : (c : After-judge-verdict) → c.values_of-before.result ≡ values_of (table_in (x c)) (slot_of c.args.identifier)
values-are c = rw (slot c) at c.values_of-before.ensures ∙ values_in_lem c.args.host.now c.args.adjustments.now _ (slot_within c.args.identifier)

undo-are : (c : After-judge-verdict) → c.adjustments_of.result ≡ adjustments_of (table_in (x c)) c.args.process (slot_of c.args.identifier)
undo-are c =
    let p = call_process (x c) c.requires _ _ c.args.wait _ (passes c) in
    rw (slot c) at c.adjustments_of.ensures
    ∙ undo_read (table_in (x c)) c.args.process _ (held_invariant (x c) c.requires).good.adjustments p.least p.most (slot_within c.args.identifier)

-- .. and as the array left them
judged : (c : After-judge-verdict) → JudgedAs (table_in (x c)) (made c) c.judge-verdict.result.outcome c.judge-verdict.result.position c.judge-verdict.new.copies
judged c = judged_as (table_in (x c)) (made c) _ _ _ _ _ _ refl (values-are c) (undo-are c) c.judge-verdict.ensures

-- every number is one of the set, and the mask is of what the array names
numbered : (c : After-judge-verdict) → Numbered c.args.bytes.now
numbered c = call_numbered (x c) c.requires _ _ c.args.wait _ (passes c)

names : (c : After-judge-verdict) → c.in-Ok.names ≡ named_by 0 (operations_of c.args.bytes.now)
names c = c.in-Ok.ensures.names_value ∙ named_within_lem 0 _ (numbered c)

-- they have a place for each semaphore
values_long : (c : After-judge-verdict) → length c.judge-verdict.new.copies.values ≡ semaphores
values_long c =
    let read : length c.values_of-before.result ≡ semaphores = search rules in
    (walked _ _ _ _ _ c.judge-verdict.ensures).sizes.values ∙ read

adjustments_long : (c : After-judge-verdict) → length c.judge-verdict.new.copies.adjustments ≡ semaphores
adjustments_long c =
    let read : length c.adjustments_of.result ≡ semaphores = search rules in
    (walked _ _ _ _ _ c.judge-verdict.ensures).sizes.adjustments ∙ read

-- done: the table is as applying says
table : (c : After-judge-verdict) {y : Host}
    → y ≡ with_copies (x c) c.args.process c.slot_of-slot.result c.in-Ok.names c.judge-verdict.new.copies
    → y ≡ tabled (x c) (applied (table_in (x c)) (made c) c.judge-verdict.new.copies)
table c e =
    rw (slot c) at e
    ∙ copies_applied (x c) (sized_good (x c) (held_invariant (x c) c.requires).good) (made c) (slot_within c.args.identifier)
    (call_process (x c) c.requires _ _ c.args.wait _ (passes c)) (numbered c) _ (values_long c) (adjustments_long c) _ (names c)

pub check_operate-requires : goal.check_operate-requires
check_operate-requires c = held_seated (host_in c.args.host.now c.args.adjustments.now) c.requires

pub returns-in-Err : goal.returns-in-Err
unfolding do_operate
returns-in-Err c =
    let code = rw (to_z-of_z c.ranges.identifier) at (c.in-Err.ensures.code_value c.args.adjustments.now) in
    refused_after (host_in c.args.host.now c.args.adjustments.now) c.requires c.in-Err.refusal _ code c.clear.ensures c.refused.ensures

pub invariant_of-wake : goal.invariant_of-wake
invariant_of-wake c = record { there_is = slot_is (goal.at.invariant_of-wake c).After-judge-verdict }

pub wake-requires : goal.wake-requires
wake-requires c =
    let j = (goal.at.wake-requires c).After-judge-verdict in
    let e = c.in-Done.is in
    let lent = done_lent (x j) c.requires _ _ c.args.wait _ (passes j) c.args.engine _ _ _ (judged j) e (table j c.apply.ensures) c.clear.ensures in
    record {
      ready = begun_ready c.default.ensures lent (done_ready (x j) c.requires _ _ c.args.wait _ (passes j) c.args.engine _ _ _ (judged j) e);
      looks_le_looks_max = omega (arith, c.default.ensures.0);
    }

pub would_sleep-ended-requires : goal.would_sleep-ended-requires
would_sleep-ended-requires c =
    let j = (goal.at.would_sleep-ended-requires c).After-judge-verdict in
    let z = passes j in
    record {
      queue_held = held_row (x j) c.requires;
      room = rw (slot j) (call_room (x j) c.requires _ _ c.args.wait _ z);
      all = call_awake (x j) c.requires _ _ c.args.wait _ z;
      host_len_bound = call_few (x j) c.requires _ _ c.args.wait _ z;
      slot_bound = omega (arith, slot_is j);
      names_value = names j;
    }

pub returns-in-Done : goal.returns-in-Done
returns-in-Done c =
    let j = (goal.at.returns-in-Done c).After-judge-verdict in
    let e = c.in-Done.is in
    let lent = done_lent (x j) c.requires _ _ c.args.wait _ (passes j) c.args.engine _ _ _ (judged j) e (table j c.apply.ensures) c.clear.ensures in
    done_after (x j) c.requires _ _ c.args.wait _ (passes j) c.args.engine _ _ _ (judged j) e (slot j) (values-are j) (values_long j)
    (begun c.default.ensures lent (treated c.args.engine _ _) c.wake.ensures) c.differing_mask-touched.ensures c.told.ensures

pub returns-in-Sleep : goal.returns-in-Sleep
returns-in-Sleep c =
    let j = (goal.at.returns-in-Sleep c).After-judge-verdict in
    let gone = c.would_sleep-ended.ensures in
    would_sleep_after (x j) c.requires _ _ c.args.wait _ (passes j) c.args.engine _ _ _ (judged j) c.in-Sleep.is (rw (slot j) at gone.host_after)
    gone.value c.clear.ensures c.not_done.ensures

pub returns-in-Again : goal.returns-in-Again
returns-in-Again c =
    let j = (goal.at.returns-in-Again c).After-judge-verdict in
    stopped_after (x j) c.requires _ _ c.args.wait _ (passes j) c.args.engine _ _ _ (judged j) c.in-Again.is c.clear.ensures c.not_done-in-Again.ensures
