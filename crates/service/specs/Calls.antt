-- Calls of the code, one after another: what they leave and return, by the promises of the functions themselves.
use Rattle.std.specs.Prelude.{◌≡◌, ℕ, ◌*◌, ◌≤◌, List, [], ◌∷◌, length, ℤ}
use Rattle.model.specs.declared.Engine.{Engine}
use Rattle.model.specs.declared.Engine.TheVariants.{Plain, Quick}
use Rattle.model.specs.declared.Event as declared
use Rattle.model.specs.declared.Queried.{Queried}
use Rattle.model.specs.declared.Reading.{Reading}
use Rattle.model.specs.declared.Reply.{Reply}
use Rattle.model.specs.declared.Reply.TheVariants as reply
use Rattle.model.specs.Limits.{semaphores}
use Rattle.model.specs.State.{fresh_state, Wait}
use Rattle.model.specs.Waking.{waker}
use Rattle.model.specs.Events.{Event, create, operate, set_value, remove, signal, exit, query, set_all, read_all, clock, act_as, event_of, Result, event, do_create, do_operate, do_set_value, do_remove, do_signal, do_exit, do_query, do_set_all, do_read_all, do_clock, do_act_as}
use Rattle.model.specs.Runs.{run, All, Pairwise, Stuck, InTime}
use Rattle.host.specs.Holding.{Host, host_of, state_in}
use Rattle.service.specs.After.{After, telling_at, after_of, queried_of, read_out, Replied, tells, shows, reads, replied_of}

-- One call on a host, the event that it is, and what it leaves and returns. Each case is the promise of one function: y, or q, is
-- what stands in what was lent and returned (its promise's left side).
pub data Call (engine : Engine) (x : Host) : Event → Replied → Type 0 where
  creates : (p count mode : ℕ) (y : After) → y ≡ after_of (do_create (state_in x) p count mode) → Call engine x (create p count mode) (tells y)
  operates : (p : ℕ) (i : ℤ) (wait : Wait) (bytes : List ℕ) (y : After) → y ≡ after_of (do_operate (waker engine) (state_in x) p i wait bytes) → Call engine x (operate p i wait bytes) (tells y)
  sets_value : (p : ℕ) (i : ℤ) (n : ℕ) (v : ℤ) (y : After) → y ≡ after_of (do_set_value (waker engine) (state_in x) p i n v) → Call engine x (set_value p i n v) (tells y)
  removes : (p : ℕ) (i : ℤ) (y : After) → y ≡ after_of (do_remove (state_in x) p i) → Call engine x (remove p i) (tells y)
  signals : (p : ℕ) (y : After) → y ≡ after_of (do_signal (state_in x) p) → Call engine x (signal p) (tells y)
  exits : (p : ℕ) (y : After) → y ≡ after_of (do_exit (waker engine) (state_in x) p) → Call engine x (exit p) (tells y)
  queries : (p : ℕ) (i : ℤ) (n : ℕ) (q : Queried) → q ≡ queried_of (do_query (state_in x) p i n) → Call engine x (query p i n) (shows x q)
  sets_all : (p : ℕ) (i : ℤ) (bytes : List ℕ) (y : After) → y ≡ after_of (do_set_all (waker engine) (state_in x) p i bytes) → Call engine x (set_all p i bytes) (tells y)
  reads_all : (p : ℕ) (i : ℤ) (lent : List ℕ) → length lent ≡ 3 * semaphores → (q : Reading) (left : List ℕ) → (q, left) ≡ read_out lent (do_read_all (state_in x) p i) → Call engine x (read_all p i) (reads x q left)
  clocks : (now : ℕ) (y : After) → y ≡ after_of (do_clock (state_in x) now) → Call engine x (clock now) (tells y)
  acts_as : (p user group : ℕ) (y : After) → y ≡ after_of (do_act_as (state_in x) p user group) → Call engine x (act_as p user group) (tells y)
  runs : (e : declared.Event) (bytes : List ℕ) (y : Replied) → y ≡ replied_of (event_of e bytes) (event (waker engine) (state_in x) (event_of e bytes)) → Call engine x (event_of e bytes) y

-- calls in a row, "each handed the state its engine's last one returned"
pub data Called (engine : Engine) : Host → List Event → List Replied → Type 0 where
  no_call : {x : Host} → Called engine x [] []
  and_call : {x : Host} {e : Event} {es : List Event} {y : Replied} {ys : List Replied} → Call engine x e y → Called engine y.host es ys → Called engine x (e ∷ es) (y ∷ ys)

-- the host after them
unfoldable pub last_host : Host → List Replied → Host
last_host x [] = x
last_host x (y ∷ ys) = last_host y.host ys

-- what a run's results are to those who call
unfoldable pub replies_of : List Event → List Result → List Replied
replies_of [] rs = []
replies_of (e ∷ es) [] = []
replies_of (e ∷ es) (r ∷ rs) = replied_of e r ∷ replies_of es rs

-- a reply's looks (a reading has none); and the reply with 0 for them
abbrev pub looks_of : Reply → ℕ
looks_of (reply.Told t) = t.looks
looks_of (reply.Seen q) = q.looks
looks_of (reply.Read q) = 0

abbrev pub without_looks : Reply → Reply
without_looks (reply.Told t) = reply.Told (telling_at t.code t.position t.value 0 t.woken)
without_looks (reply.Read q) = reply.Read q
without_looks (reply.Seen q) =
    reply.Seen
    (record {
      code = q.code;
      value = q.value;
      last = q.last;
      increase = q.increase;
      zero = q.zero;
      increase_mask = q.increase_mask;
      zero_mask = q.zero_mask;
      looks = 0;
    })

-- one call in the quick and in the plain engine: the same host, the same wakings, and the same reply apart from looks
pub record CallsAlike (quick plain : Replied) : Type 0 where
  pub host : quick.host ≡ plain.host
  pub wakings : quick.wakings ≡ plain.wakings
  pub reply : without_looks quick.reply ≡ without_looks plain.reply
  pub read : quick.read ≡ plain.read
  pub fewer : looks_of quick.reply ≤ looks_of plain.reply
  pub bounded : looks_of plain.reply ≤ 28

-- Demand 3, of calls that are the same list of events from a fresh host: what they leave and return is what each engine's run
-- gives, and the same in both.
pub record CallsAgree (events : List Event) (quick plain : List Replied) : Type 0 where
  pub quick_run : quick ≡ replies_of events (run Quick fresh_state events).results
  pub plain_run : plain ≡ replies_of events (run Plain fresh_state events).results
  pub alike : Pairwise CallsAlike quick plain
  pub last : last_host (host_of fresh_state) quick ≡ last_host (host_of fresh_state) plain
  pub ends : last_host (host_of fresh_state) quick ≡ host_of (run Plain fresh_state events).last
  pub stuck : All (Stuck (run Plain fresh_state events).last) (run Plain fresh_state events).last.queue
  pub in_time : All (InTime (run Plain fresh_state events).last) (run Plain fresh_state events).last.queue
