-- A host that holds a state which is fresh or came back from an event: what an event leaves is such a host again.
use Rattle.std.proofs.Common.{◌≡◌, List, sym, refl, ap, subst, ap₂}
use Rattle.model.specs.declared.Engine.{Engine}
use Rattle.model.specs.declared.Set.{Set}
use Rattle.model.specs.State.{State, Sleeper, fresh_state}
use Rattle.model.specs.Waking.{waker}
use Rattle.model.specs.Events.{Event, event}
use Rattle.model.specs.Runs.{Reached, start, came}
use Rattle.model.specs.Invariant.{Invariant}
use Rattle.model.proofs.Engines.{reached}
use Rattle.host.specs.Holding.{Host, host_of, sets_in, queue_in, state_in, Held}
use Rattle.host.proofs.QueueRows.{queued, queue_back}
use Rattle.host.proofs.SetRows.{sets_back}

-- the state of a host that was made of a state
pub state_back : {s : State} → Reached s → state_in (host_of s) ≡ s
state_back {s} r =
    let i : Invariant s = reached r in
    let q : queue_in (host_of s).row ≡ s.queue = queue_back _ s.queue (queued s.queue i.fits i.distinct) in
    let k : sets_in (host_of s).row ≡ s.sets = sets_back (record { size = i.sets; generation = refl; count = refl; owner = refl; group = refl; mode = refl }) in
    ap₂ (λ (a : List Set) (b : List Sleeper). record { sets = a; callers = s.callers; table = s.table; queue = b; time = s.time }) k q

-- a host of a reached state
pub held_of : {s : State} → Reached s → Held (host_of s)
held_of r = record { holds = ap host_of (sym (state_back r)); reached = subst Reached (sym (state_back r)) r }

pub held_fresh : Held (host_of fresh_state)
held_fresh = held_of start

pub held_next : (x : Host) → Held x → (engine : Engine) (e : Event) → Held (host_of (event (waker engine) (state_in x) e).state)
held_next x k engine e = held_of (came k.reached engine e)
