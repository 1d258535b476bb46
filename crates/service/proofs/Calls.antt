-- Calls of the code agree with the engine's run, step by step; and those of both engines with each other (specs/Calls.antt).
use Rattle.std.proofs.Common.{◌≡◌, List, ◌∷◌, length, sym, refl, ap, ◌∙◌, subst, ap₂, arith}
use Rattle.model.specs.declared.Engine.{Engine}
use Rattle.model.specs.declared.Engine.TheVariants.{Plain, Quick}
use Rattle.model.specs.declared.Waking.{Waking}
use Rattle.model.specs.declared.Reply.TheVariants as reply
use Rattle.model.specs.State.{fresh_state}
use Rattle.model.specs.Waking.{waker}
use Rattle.model.specs.Events.{Event, Form, as_told, as_seen, as_read, form_of, Answer, Result, numbers_of, event}
use Rattle.model.specs.Runs.{run, came, start, Pairwise, end, next}
use Rattle.model.proofs.EventLaws.{Agrees}
use Rattle.model.proofs.Engines.{event_agrees, reached, engines_agree}
use Rattle.host.specs.Holding.{Host, host_of, state_in, Held}
use Rattle.host.proofs.HeldLaws.{state_back, held_fresh, held_next}
use Rattle.wakings.specs.Wakings.{list_of}
use Rattle.service.specs.After.{telling_at, showing, reply_as, read_as, Replied, tells, replied_of}
use Rattle.service.specs.Calls.{Call, creates, operates, sets_value, removes, signals, exits, queries, sets_all, reads_all, clocks, acts_as, runs, Called, no_call, and_call, last_host, replies_of, CallsAlike, CallsAgree}
use Rattle.service.proofs.ReplyLaws.{seen, read}

-- ---- one call

-- any function leaves and returns what the event gives
call_is : (engine : Engine) (x : Host) → Held x → (e : Event) (y : Replied) → Call engine x e y → y ≡ replied_of e (event (waker engine) (state_in x) e)
unfolding event
call_is engine x k e y (creates p count mode a h) = ap tells h
call_is engine x k e y (operates p i wait bytes a h) = ap tells h
call_is engine x k e y (sets_value p i n v a h) = ap tells h
call_is engine x k e y (removes p i a h) = ap tells h
call_is engine x k e y (signals p a h) = ap tells h
call_is engine x k e y (exits p a h) = ap tells h
call_is engine x k e y (queries p i n q h) = seen x k p i n refl h
call_is engine x k e y (sets_all p i bytes a h) = ap tells h
call_is engine x k e y (reads_all p i lent long q left h) = read x k p i lent long h refl
call_is engine x k e y (clocks now a h) = ap tells h
call_is engine x k e y (acts_as p user group a h) = ap tells h
call_is engine x k e y (runs d bytes a h) = h

-- .. and a host that holds the state after it
module _ (engine : Engine) (x : Host) (k : Held x) (e : Event) (y : Replied) (c : Call engine x e y) where
  host_is : y.host ≡ host_of (event (waker engine) (state_in x) e).state
  host_is = ap (λ (z : Replied). z.host) (call_is engine x k e y c)

  host_held : Held y.host
  host_held = subst Held (sym host_is) (held_next x k engine e)

  state_is : state_in y.host ≡ (event (waker engine) (state_in x) e).state
  state_is = ap state_in host_is ∙ state_back (came k.reached engine e)

-- ---- calls in a row

-- what they leave and return is what the engine's run gives, step by step
pub calls_run : (engine : Engine) (x : Host) → Held x → (es : List Event) (ys : List Replied) → Called engine x es ys → ys ≡ replies_of es (run engine (state_in x) es).results
unfolding run replies_of
calls_run engine x k es ys no_call = refl
calls_run engine x k es ys (and_call {e = e} {es = rest} {y = y} {ys = more} c cs) =
    ap₂ ◌∷◌ (call_is engine x k e y c)
    (rw (state_is engine x k e y c) at (calls_run engine y.host (host_held engine x k e y c) rest more cs))

pub calls_last : (engine : Engine) (x : Host) → Held x → (es : List Event) (ys : List Replied) → Called engine x es ys → last_host x ys ≡ host_of (run engine (state_in x) es).last
unfolding run last_host
calls_last engine x k es ys no_call = k.holds
calls_last engine x k es ys (and_call {e = e} {es = rest} {y = y} {ys = more} c cs) =
    rw (state_is engine x k e y c) at (calls_last engine y.host (host_held engine x k e y c) rest more cs)

-- ---- both engines

-- results that are alike, and leave the same state, are alike to those who call
replies_alike : (e : Event) (a b : Result) → Agrees a b → CallsAlike (replied_of e a) (replied_of e b)
replies_alike e a b g = go (form_of e)
  where
    go : (f : Form) → CallsAlike (record { host = host_of a.state; wakings = list_of a.wakings; reply = reply_as f a; read = read_as f a })
        (record { host = host_of b.state; wakings = list_of b.wakings; reply = reply_as f b; read = read_as f b })
    go as_told =
        record {
          host = ap host_of g.state;
          wakings = ap list_of g.alike.wakings;
          reply = ap₂ (λ (w : Answer) (l : List Waking). reply.Told (telling_at w.code w.position w.value 0 (length l))) g.alike.answer g.alike.wakings;
          read = refl;
          fewer = g.alike.fewer;
          bounded = g.alike.bounded;
        }
    go as_seen =
        record {
          host = ap host_of g.state;
          wakings = ap list_of g.alike.wakings;
          reply = ap (λ (w : Answer). reply.Seen (showing w 0)) g.alike.answer;
          read = refl;
          fewer = g.alike.fewer;
          bounded = g.alike.bounded;
        }
    go as_read =
        record {
          host = ap host_of g.state;
          wakings = ap list_of g.alike.wakings;
          reply = ap (λ (w : Answer). reply.Read (record { code = w.code; count = length w.all })) g.alike.answer;
          read = ap (λ (w : Answer). numbers_of w.all) g.alike.answer;
          fewer = omega arith;
          bounded = omega arith;
        }

calls_alike : (x : Host) → Held x → (es : List Event) (ys zs : List Replied) → Called Quick x es ys → Called Plain x es zs → Pairwise CallsAlike ys zs
calls_alike x k es ys zs no_call no_call = end
calls_alike x k es ys zs (and_call {e = e} {es = rest} {y = y} {ys = more} c cs) (and_call {y = z} {ys = less} d ds) =
    let g : Agrees (event (waker Quick) (state_in x) e) (event (waker Plain) (state_in x) e) = event_agrees (state_in x) e (reached k.reached) in
    let h : y.host ≡ z.host = host_is Quick x k e y c ∙ ap host_of g.state ∙ sym (host_is Plain x k e z d) in
    let a : CallsAlike y z = rw (call_is Quick x k e y c, call_is Plain x k e z d) (replies_alike e _ _ g) in
    next a (calls_alike y.host (host_held Quick x k e y c) rest more less cs (subst (λ (w : Host). Called Plain w rest less) (sym h) ds))

-- Demand 3, over calls of the code.
pub calls_agree : (events : List Event) (quick plain : List Replied) → Called Quick (host_of fresh_state) events quick → Called Plain (host_of fresh_state) events plain
    → CallsAgree events quick plain
calls_agree events quick plain cs ds =
    let e : state_in (host_of fresh_state) ≡ fresh_state = state_back start in
    let a = engines_agree events in
    let q : last_host (host_of fresh_state) quick ≡ host_of (run Plain fresh_state events).last = (rw e at (calls_last Quick _ held_fresh events quick cs)) ∙ ap host_of a.last in
    let p : last_host (host_of fresh_state) plain ≡ host_of (run Plain fresh_state events).last = rw e at (calls_last Plain _ held_fresh events plain ds) in
    record {
      quick_run = rw e at (calls_run Quick _ held_fresh events quick cs);
      plain_run = rw e at (calls_run Plain _ held_fresh events plain ds);
      alike = calls_alike _ held_fresh events quick plain cs ds;
      last = q ∙ sym p;
      ends = q;
      stuck = rw a.last at a.stuck;
      in_time = rw a.last at a.in_time;
    }
