-- The pieces put together are the whole text of the file, and lead behind all of its events.
use Prim.Native.Nat.{ℕ, zero, suc, ◌+◌, ◌-◌, ◌<◌, ◌≤◌}
use mathlib.Core.Path.{◌≡◌, refl, sym, ap, ◌∙◌}
use mathlib.Core.Bool.{Bool, true, false, cond}
use mathlib.Core.List.{List, [], ◌++◌, append_assoc}
use native.Mathlib.Omega.{arith}
use lib.Dec.{ltb}
use lib.ListN.{length, take}
use borrow.Author.Tests.{ltb-true, ltb-false, le-leb}
use Rattle.model.specs.declared.Engine.{Engine}
use Rattle.model.specs.State.{fresh_state}
use Rattle.model.specs.Runs.{start, run}
use Rattle.host.proofs.HeldLaws.{state_back}
use Rattle.runfile.specs.File.{file_of, code_of_file}
use Rattle.lines.specs.Text.{text_of}
use Rattle.lines.specs.Buffer.{line_bytes, written, has_room, put_line}
use Rattle.lines.proofs.Writing.{roomy, length_grows, line_text}
use Rattle.replaying.specs.Replay.{Stage, Wrote, first_line, events_in, text_of_file, replayed, start_of, next_line, onward, ahead, last_stage, Came, started, went, wrote, begun, piece_from, piece_of, texts_from, together}
use Rattle.replaying.proofs.Turns.{start_events, rest, rest_turn, rest_over}
use Rattle.replaying.proofs.Going.{piece_turn}

module _ (engine : Engine) (file : List ℕ) where
  ahead_ahead : (s : Stage) (m n : ℕ) → ahead engine file (ahead engine file s m) n ≡ ahead engine file s (m + n)
  unfolding ahead
  ahead_ahead s m zero = let e : m + 0 ≡ m = omega arith in rw e
  ahead_ahead s m (suc n) = let e : m + suc n ≡ suc (m + n) = omega arith in rw e (ap (onward engine file) (ahead_ahead s m n))

  pub ahead_onward : (s : Stage) (n : ℕ) → ahead engine file (onward engine file s) n ≡ ahead engine file s (suc n)
  unfolding ahead
  ahead_onward s zero = refl
  ahead_onward s (suc n) = ap (onward engine file) (ahead_onward s n)

  -- ---- a piece

  -- what it wrote, and what is left, is what was left before
  pub record Went (s : Stage) (at : ℕ) (out : List ℕ) (w : Wrote) : Type 0 where
    pub came : Came file w.stage
    pub text : take w.written w.out ++ rest engine file w.stage ≡ take at out ++ rest engine file s
    pub stage : w.stage ≡ ahead engine file s (s.left - w.stage.left)
    pub fewer : w.stage.left ≤ s.left
    pub size : length out ≤ length w.out

  stops : {s : Stage} (at : ℕ) (out : List ℕ) → Came file s → Went s at out (wrote s at out)
  unfolding ahead
  stops {s} at out k =
      record { came = k; text = refl; stage = let e : s.left - s.left ≡ zero = omega arith in rw e; fewer = omega arith; size = omega arith }

  turns : {s : Stage} (at : ℕ) (out : List ℕ) {w : Wrote} → Came file s → 0 < s.left → has_room out at ≡ true
      → Went (onward engine file s) (at + length (next_line engine file s)) (written out at (next_line engine file s)) w → Went s at out w
  unfolding onward
  turns {s} at out {w} k h r v =
      let line = next_line engine file s in
      let a : at ≤ length out = omega (arith, roomy out at r) in
      let e : suc (s.left - 1 - w.stage.left) ≡ s.left - w.stage.left = omega (arith, v.fewer) in
      record {
        came = v.came;
        text = v.text ∙ rw (line_text out line at a, append_assoc, rest_turn k h engine);
        stage = v.stage ∙ ahead_onward s _ ∙ ap (ahead engine file s) e;
        fewer = omega (arith, v.fewer);
        size = omega (arith, v.size, length_grows out at line a);
      }

  goes : (n : ℕ) (s : Stage) (at : ℕ) (out : List ℕ) → n ≡ s.left → Came file s → Went s at out (piece_from n engine file s at out)
  unfolding piece_from onward
  goes zero s at out e k = stops at out k
  goes (suc n) s at out e k =
      by (has_room out at) refl (goes n (onward engine file s) _ _ (omega arith) (went k (omega arith) engine))
    where
      next : ℕ
      next = at + length (next_line engine file s)

      more : List ℕ
      more = written out at (next_line engine file s)

      by : (t : Bool) → has_room out at ≡ t → Went (onward engine file s) next more (piece_from n engine file (onward engine file s) next more)
          → Went s at out (cond t (piece_from n engine file (onward engine file s) next more) (wrote s at out))
      by true r v = turns at out k (omega arith) r v
      by false r v = stops at out k

  pub piece_went : {s : Stage} (out : List ℕ) → Came file s → Went s 0 out (piece_of engine file s out)
  piece_went {s} out k = goes s.left s 0 out refl k

  -- with room for a line it runs an event at least, if any is left
  pub piece_moves : {s : Stage} (out : List ℕ) → Came file s → 0 < s.left → line_bytes ≤ length out → (piece_of engine file s out).stage.left < s.left
  unfolding onward
  piece_moves {s} out k h l =
      let r : has_room out 0 ≡ true = le-leb line_bytes (length out) l in
      rw (piece_turn engine file s 0 out s.left h r)
      (omega (arith, (goes (s.left - 1) (onward engine file s) (0 + length (next_line engine file s)) (written out 0 (next_line engine file s)) refl (went k h engine)).fewer))

  -- ---- all of them

  pub texts_make_rest : (n : ℕ) {s : Stage} (out : List ℕ) → s.left ≤ n → Came file s → line_bytes ≤ length out → texts_from n engine file s out ≡ rest engine file s
  unfolding texts_from
  texts_make_rest zero {s} out h k l = sym (rest_over engine file s (omega arith))
  texts_make_rest (suc n) {s} out h k l = by (ltb 0 s.left) refl (λ a b c. texts_make_rest n (piece_of engine file s out).out a b c)
    where
      w : Wrote
      w = piece_of engine file s out

      by : (t : Bool) → ltb 0 s.left ≡ t
          → (w.stage.left ≤ n → Came file w.stage → line_bytes ≤ length w.out → texts_from n engine file w.stage w.out ≡ rest engine file w.stage)
          → cond t (take w.written w.out ++ texts_from n engine file w.stage w.out) [] ≡ rest engine file s
      by true e more =
          let v = piece_went out k in
          let m = piece_moves out k (ltb-true 0 s.left e) l in
          rw (more (omega arith) v.came (omega (arith, v.size))) v.text
      by false e more = sym (rest_over engine file s (omega (arith, ltb-false 0 s.left e)))

  start_rest : rest engine file (start_of file) ≡ text_of 0 (events_in (file_of file)) (run engine fresh_state (events_in (file_of file))).results
  unfolding rest start_of
  start_rest = rw (start_events file (code_of_file file) refl, state_back start)

  -- The text of a start and of all pieces behind it, into a buffer with room for a line, is the whole text of the file.
  pub whole : (out : List ℕ) → line_bytes ≤ length out → together engine file out ≡ replayed engine file
  unfolding together begun put_line text_of_file
  whole out l =
      let line = first_line (file_of file) in
      let r : has_room out 0 ≡ true = le-leb line_bytes (length out) l in
      rw (r, line_text out line 0 (omega arith), texts_make_rest (start_of file).left (written out 0 line) (omega arith) started (omega (arith, length_grows out 0 line (omega arith))), start_rest)

  -- ---- how far they lead

  -- behind some of the events
  pub record Through (s : Stage) : Type 0 where
    pub came : Came file s
    pub is : s ≡ ahead engine file (start_of file) ((start_of file).left - s.left)
    pub fewer : s.left ≤ (start_of file).left

  pub through_start : (out : List ℕ) → Through (begun file out).stage
  unfolding begun ahead
  through_start out = record { came = started; is = let e : (start_of file).left - (start_of file).left ≡ zero = omega arith in rw e; fewer = omega arith }

  pub through_piece : {s : Stage} (out : List ℕ) → Through s → Through (piece_of engine file s out).stage
  through_piece {s} out t =
      let v = piece_went out t.came in
      let q = (piece_of engine file s out).stage in
      let e : (start_of file).left - s.left + (s.left - q.left) ≡ (start_of file).left - q.left = omega (arith, t.fewer, v.fewer) in
      record {
        came = v.came;
        is = v.stage ∙ ap (λ (x : Stage). ahead engine file x (s.left - q.left)) t.is ∙ ahead_ahead (start_of file) _ _ ∙ ap (ahead engine file (start_of file)) e;
        fewer = omega (arith, t.fewer, v.fewer);
      }

  pub through_all : {s : Stage} → Through s → s.left ≤ 0 → s ≡ last_stage engine file
  through_all {s} t h = let e : (start_of file).left - s.left ≡ (start_of file).left = omega arith in t.is ∙ ap (ahead engine file (start_of file)) e
