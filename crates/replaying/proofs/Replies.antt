-- An event is run and its reply written: the line is that of the event, and the host is the one after it.
use Prim.Native.Nat.{ℕ, ◌+◌, ◌≤◌}
use mathlib.Core.Path.{◌≡◌, refl, ap, ◌∙◌}
use mathlib.Core.List.{List}
use lib.ListN.{length}
use Rattle.model.specs.declared.Engine.{Engine}
use Rattle.model.specs.declared.Reply.{Reply}
use Rattle.model.specs.Waking.{waker}
use Rattle.model.specs.Events.{Event, Form, as_told, as_seen, as_read, form_of, Result, event}
use Rattle.host.specs.Holding.{Host, host_of, state_in}
use Rattle.wakings.specs.Wakings.{Place, list_of, wakings_in}
use Rattle.wakings.proofs.ListLaws.{take_listed}
use Rattle.service.specs.After.{Replied, reply_as, read_as, replied_of}
use Rattle.runfile.specs.Body.{event_at}
use Rattle.lines.specs.Text.{event_text, event_line, line_as, line_of}
use Rattle.lines.specs.Buffer.{line_bytes, put_line}
use Rattle.replaying.specs.Replay.{Stage, next_result, next_line, reply_text}

-- the line of what a result's event is answered
module _ (position : ℕ) (r : Result) where
  told : event_text position r.answer.code r.answer.position r.answer.value r.looks (wakings_in (length r.wakings) (list_of r.wakings)) ≡ event_line position r
  told = ap (event_text position r.answer.code r.answer.position r.answer.value r.looks) (take_listed r.wakings)

  pub reply_line : (e : Event) → reply_text position (list_of r.wakings) (read_as (form_of e) r) (reply_as (form_of e) r) ≡ line_of position e r
  unfolding line_of
  reply_line e = by (form_of e)
    where
      by : (f : Form) → reply_text position (list_of r.wakings) (read_as f r) (reply_as f r) ≡ line_as f position r
      by as_told = told
      by as_seen = refl
      by as_read = refl

pub record Turned (engine : Engine) (file : List ℕ) (s : Stage) (out : List ℕ) (next : ℕ) (x : Host) (out' : List ℕ) (next' : ℕ) : Type 0 where
  pub host : x ≡ host_of (next_result engine file s).state
  pub put : (next', out') ≡ put_line out next (next_line engine file s)
  pub fits : next' ≤ next + line_bytes

-- what `run` and then `reply_line` promise, of the event that stands next in the file
pub turned : (engine : Engine) (file : List ℕ) (s : Stage) (out : List ℕ) (next : ℕ) {x : Host} {list : List Place} {read : List ℕ} {reply : Reply} {e : Event} {out' : List ℕ} {next' : ℕ}
    → e ≡ event_at file s.at → record { host = x; wakings = list; reply = reply; read = read } ≡ replied_of e (event (waker engine) (state_in s.host) e)
    → (next', out') ≡ put_line out next (reply_text s.position list read reply) → next' ≤ next + line_bytes
    → Turned engine file s out next x out' next'
unfolding next_line
turned engine file s out next {x} {list} {read} {reply} at r l fits =
    let a = rw at at r in
    record {
      host = ap (λ (y : Replied). y.host) a;
      put = l ∙ ap (put_line out next) (ap (λ (y : Replied). reply_text s.position y.wakings y.read y.reply) a ∙ reply_line s.position (next_result engine file s) (event_at file s.at));
      fits = fits;
    }
