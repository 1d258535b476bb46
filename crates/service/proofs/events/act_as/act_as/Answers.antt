use Rattle.std.proofs.Common.{◌≡◌, ℕ, List, [], pos, sym, ap, ◌∙◌, ap₂}
use Rattle.model.specs.declared.Caller.{Caller}
use Rattle.model.specs.declared.Told.{Told}
use Rattle.model.specs.Checks.{check_caller}
use Rattle.model.specs.Events.{do_act_as}
use Rattle.model.proofs.CheckLaws.{caller_passes}
use Rattle.host.specs.Parts.{Row}
use Rattle.host.specs.Holding.{Host, with_caller_at, host_in, state_in, Held}
use Rattle.host.proofs.CallerRows.{caller_held}
use Rattle.wakings.specs.Wakings.{Place, list_of}
use Rattle.service.specs.After.{telling, after_of}
use Rattle.service.proofs.EventLaws.{held_seated, refused_after, goes_on}
use Rattle.service.proofs.events.act_as.act_as.Goals as goal

-- once the caller is a process awake, it has the two numbers, and all else stays
acted : (x : Host) → Held x → (p user group : ℕ) → check_caller (state_in x) p ≡ 0 → {r : Row} {l : List Place} {told : Told} → r ≡ with_caller_at x.row p (record { user = user; group = group })
    → l ≡ list_of [] → told ≡ telling (pos 0) 0 0 0
    → record { host = record { row = r; adjustments = x.adjustments }; wakings = l; told = told } ≡ after_of (do_act_as (state_in x) p user group)
unfolding do_act_as
acted x k p user group z {r} {l} {told} er el et =
    let c : Caller = record { user = user; group = group } in
    ap₂ (λ (w : List Place) (t : Told). record { host = record { row = r; adjustments = x.adjustments }; wakings = w; told = t }) el et
    ∙ ap (λ (h : Host). record { host = h; wakings = list_of []; told = telling (pos 0) 0 0 0 })
    (ap (λ (a : Row). record { row = a; adjustments = x.adjustments }) er ∙ caller_held x k.holds p (caller_passes (state_in x) p z).process c)
    ∙ ap after_of (goes_on (state_in x) _ z)

pub check_caller-requires : goal.check_caller-requires
check_caller-requires c = held_seated (host_in c.args.host.now c.args.adjustments.now) c.requires

pub returns-in-Err : goal.returns-in-Err
unfolding do_act_as
returns-in-Err c = refused_after (host_in c.args.host.now c.args.adjustments.now) c.requires c.in-Err.refusal _ (c.in-Err.ensures c.args.adjustments.now) c.clear.ensures c.refused.ensures

pub returns : goal.returns
returns c =
    acted (host_in c.args.host.now c.args.adjustments.now) c.requires _ _ _ (sym (c.in_default.ensures c.args.adjustments.now))
    c.put_caller.ensures c.clear.ensures c.done.ensures
