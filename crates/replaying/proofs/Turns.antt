-- What holds of a stage that came so, and how the next event goes on from it.
use Prim.Native.Nat.{ℕ, zero, suc, ◌+◌, ◌<◌, ◌≤◌}
use mathlib.Core.Path.{◌≡◌, refl, sym, ap, ◌∙◌}
use mathlib.Core.List.{List, [], ◌++◌}
use native.Mathlib.Omega.{arith}
use lib.ListN.{length}
use Rattle.model.specs.declared.Engine.{Engine}
use Rattle.model.specs.State.{fresh_state}
use Rattle.model.specs.Runs.{came, run}
use Rattle.host.specs.Holding.{Host, host_of, state_in, Held}
use Rattle.host.proofs.HeldLaws.{state_back, held_fresh, held_next}
use Rattle.runfile.specs.Table.{file_max, table_end, count_in}
use Rattle.runfile.specs.Body.{event_at, next_at, events_from}
use Rattle.runfile.specs.File.{file_of, code_of_file}
use Rattle.runfile.proofs.Walk.{Bodies, within, is_good, good_events, good_bodies, bad_code_lem, events_turn, bodies_turn}
use Rattle.lines.specs.Text.{text_of}
use Rattle.replaying.specs.Replay.{Stage, events_in, start_of, next_line, onward, Came, started, went}

abbrev pub stage : Host → ℕ → ℕ → ℕ → Stage
stage host position left at = record { host = host; position = position; left = left; at = at }

pub none : {X : Type 0} → 0 < 0 → X
none h = absurd (no h)
  where
    no : 0 < 0 → ⊥
    no z = omega arith

-- ---- what a stage that came so has: a host that holds a state, the bodies that are left, and positions that fit

pub record StageReady (file : List ℕ) (s : Stage) : Type 0 where
  pub held : Held s.host
  pub bodies : 0 < s.left → Bodies file s.at s.left
  pub few : s.position + s.left ≤ file_max

pub length_events : (file : List ℕ) (at n : ℕ) → length (events_from file at n) ≡ n
unfolding events_from
length_events file at zero = refl
length_events file at (suc n) = ap suc (length_events file (next_at file at) n)

-- the start of a refused file, and of a good one
module _ (file : List ℕ) where
  pub start_bad : (code_of_file file ≡ 0 → ⊥) → start_of file ≡ stage (host_of fresh_state) 0 0 (table_end 0)
  unfolding start_of events_in
  start_bad h = rw (bad_code_lem file h)

  pub start_good : code_of_file file ≡ 0 → start_of file ≡ stage (host_of fresh_state) 0 (count_in file) (table_end (count_in file))
  unfolding start_of events_in
  start_good h = rw (good_events file h, length_events file (table_end (count_in file)) (count_in file))

  -- the bodies that are left hold the file's events
  pub start_events : (code : ℕ) → code_of_file file ≡ code → events_from file (start_of file).at (start_of file).left ≡ events_in (file_of file)
  unfolding start_of events_in events_from
  start_events zero h = rw (good_events file h, length_events file (table_end (count_in file)) (count_in file))
  start_events (suc n) h = rw (bad_code_lem file (λ z. no n (sym h ∙ z)))
    where
      no : (m : ℕ) → suc m ≡ 0 → ⊥
      no m z = omega arith

  start_ready : (code : ℕ) → code_of_file file ≡ code → StageReady file (start_of file)
  start_ready zero h =
      rw (start_good h) (record { held = held_fresh; bodies = λ l. good_bodies file h; few = omega (arith, (is_good file h).short, (is_good file h).table) })
  start_ready (suc n) h =
      rw (start_bad (λ z. no n (sym h ∙ z))) (record { held = held_fresh; bodies = λ l. none l; few = omega arith })
    where
      no : (m : ℕ) → suc m ≡ 0 → ⊥
      no m z = omega arith

pub ready : {file : List ℕ} {s : Stage} → Came file s → StageReady file s
unfolding onward
ready {file} started = start_ready file (code_of_file file) refl
ready {file} (went {s} k h engine) =
    let r : StageReady file s = ready k in
    record {
      held = held_next s.host r.held engine (event_at file s.at);
      bodies = λ l. bodies_turn file s.at s.left h (r.bodies h);
      few = omega (arith, r.few);
    }

-- ---- the next event

-- the text that is still to be written
unfoldable pub rest : Engine → List ℕ → Stage → List ℕ
rest engine file s =
    let es = events_from file s.at s.left in
    text_of s.position es (run engine (state_in s.host) es).results

module _ {file : List ℕ} {s : Stage} (k : Came file s) (h : 0 < s.left) where
  -- its body lies within the file
  pub next_inside : next_at file s.at ≤ length file
  next_inside = within (bodies_turn file s.at s.left h ((ready k).bodies h))

  -- its line, and then what is left behind it
  pub rest_turn : (engine : Engine) → rest engine file s ≡ next_line engine file s ++ rest engine file (onward engine file s)
  unfolding rest onward next_line run text_of
  rest_turn engine =
      let e = state_back (came (ready k).held.reached engine (event_at file s.at)) in
      rw (events_turn file s.at s.left h, e)

pub rest_over : (engine : Engine) (file : List ℕ) (s : Stage) → s.left ≡ 0 → rest engine file s ≡ []
unfolding rest events_from text_of
rest_over engine file s h = rw h
