-- Both engines' texts of a file are the same apart from the looks; a refused file runs nothing; and what printing answers is the
-- host after the run of the file's events (specs/Texts.antt).
use Prim.Native.Nat.{ℕ, zero, suc, ◌+◌, ◌-◌}
use native.Mathlib.Omega.{arith}
use mathlib.Core.Path.{◌≡◌, refl, sym, ap, ◌∙◌}
use mathlib.Core.List.{List, [], ◌∷◌, append-nil}
use Rattle.model.specs.declared.Engine.{Engine}
use Rattle.model.specs.declared.Engine.TheVariants.{Plain, Quick}
use Rattle.model.specs.Events.{Event, Form, as_told, as_seen, as_read, form_of, Result, numbers_of}
use Rattle.model.specs.Runs.{run, start, came, Pairwise, end, next, Alike}
use Rattle.model.proofs.Engines.{engines_agree}
use Rattle.host.specs.Holding.{host_of, state_in, Held}
use Rattle.host.proofs.HeldLaws.{state_back, held_fresh, held_next}
use Rattle.runfile.specs.Body.{event_at, events_from}
use Rattle.runfile.specs.File.{bad, file_of, code_of_file}
use Rattle.lines.specs.Text.{line_as, line_of, text_of}
use Rattle.replaying.specs.Replay.{Stage, first_line, events_in, text_of_file, replayed, start_of, onward, ahead, last_stage}
use Rattle.replaying.specs.Texts.{LinesAlike, same_first, same_query, same_reading, other_looks, TextsAlike, no_line, and_line, RanAll, RanNothing}
use Rattle.replaying.proofs.Turns.{start_events}
use Rattle.replaying.proofs.Whole.{ahead_onward}

-- ---- both engines

line_alike : (position : ℕ) (e : Event) (quick plain : Result) → Alike quick plain → LinesAlike (line_of position e quick) (line_of position e plain)
unfolding line_of
line_alike position e q p a = go (form_of e)
  where
    go : (f : Form) → LinesAlike (line_as f position q) (line_as f position p)
    go as_told = rw (a.answer, a.wakings) (other_looks position p.answer.code p.answer.position p.answer.value q.looks p.looks p.wakings a.fewer a.bounded)
    go as_seen = rw a.answer (same_query position p.answer.code p.answer.value p.answer.seen.last p.answer.seen.increase p.answer.seen.zero)
    go as_read = rw a.answer (same_reading position p.answer.code (numbers_of p.answer.all))

lines_alike : (position : ℕ) (es : List Event) (qs ps : List Result) → Pairwise Alike qs ps → TextsAlike (text_of position es qs) (text_of position es ps)
unfolding text_of
lines_alike position [] qs ps a = no_line
lines_alike position (e ∷ es) qs ps end = no_line
lines_alike position (e ∷ es) qs ps (next {x = q} {y = p} {xs = qs'} {ys = ps'} a more) = and_line (line_alike position e q p a) (lines_alike (position + 1) es qs' ps' more)

pub texts_alike : (file : List ℕ) → TextsAlike (replayed Quick file) (replayed Plain file)
unfolding text_of_file
texts_alike file = and_line (same_first (file_of file)) (lines_alike 0 (events_in (file_of file)) _ _ (engines_agree (events_in (file_of file))).alike)

-- ---- behind the last line

module _ (engine : Engine) (file : List ℕ) where
  ahead_host : (n : ℕ) (s : Stage) → Held s.host → (ahead engine file s n).host ≡ host_of (run engine (state_in s.host) (events_from file s.at n)).last
  unfolding ahead run events_from onward
  ahead_host zero s k = k.holds
  ahead_host (suc n) s k =
      let e = event_at file s.at in
      sym (ap (λ (x : Stage). x.host) (ahead_onward engine file s n))
      ∙ (rw (state_back (came k.reached engine e)) at (ahead_host n (onward engine file s) (held_next s.host k engine e)))

  ahead_position : (n : ℕ) (s : Stage) → (ahead engine file s n).position ≡ s.position + n
  unfolding ahead onward
  ahead_position zero s = omega arith
  ahead_position (suc n) s = omega (arith, ahead_position n s)

  ahead_left : (n : ℕ) (s : Stage) → (ahead engine file s n).left ≡ s.left - n
  unfolding ahead onward
  ahead_left zero s = omega arith
  ahead_left (suc n) s = omega (arith, ahead_left n s)

  -- The stage that printing answers.
  pub ran_all : RanAll engine file (last_stage engine file)
  unfolding start_of
  ran_all =
      record {
        host = ahead_host (start_of file).left (start_of file) held_fresh ∙ rw (start_events file (code_of_file file) refl, state_back start);
        position = ahead_position (start_of file).left (start_of file) ∙ omega arith;
        left = ahead_left (start_of file).left (start_of file) ∙ omega arith;
      }

  -- A refused file runs none of its events.
  pub ran_nothing : (code : ℕ) → file_of file ≡ bad code → RanNothing engine file code
  unfolding text_of_file first_line events_in text_of run
  ran_nothing code h = record { text = rw (h, append-nil); host = ran_all.host ∙ rw h }
