-- The text of a run file under an engine ("The run file"), whole and piece by piece.
use Rattle.std.specs.Prelude.{ℕ, zero, suc, ◌+◌, ◌-◌, ◌<◌, cond, List, [], ◌++◌, ltb, length, take}
use Rattle.model.specs.declared.Engine.{Engine}
use Rattle.model.specs.declared.Reply.{Reply}
use Rattle.model.specs.declared.Reply.TheVariants.{Told, Seen, Read}
use Rattle.model.specs.State.{fresh_state}
use Rattle.model.specs.Waking.{waker}
use Rattle.model.specs.Events.{Event, Result, event}
use Rattle.model.specs.Runs.{run}
use Rattle.host.specs.Holding.{Host, host_of, state_in}
use Rattle.wakings.specs.Wakings.{Place, wakings_in}
use Rattle.runfile.specs.Table.{table_end}
use Rattle.runfile.specs.Body.{event_at, next_at}
use Rattle.runfile.specs.File.{File, bad, good, file_of}
use Rattle.lines.specs.Text.{head_line, bad_line, event_text, query_text, read_text, line_of, text_of}
use Rattle.lines.specs.Buffer.{written, has_room, put_line}
use Rattle.replaying.specs.declared.Progress.{Progress}

-- ---- the whole text

-- "A refused file writes one line, `bad` and the code. Otherwise the program writes `events` and the number"
unfoldable pub first_line : File → List ℕ
first_line (bad code) = bad_line code
first_line (good es) = head_line (length es)

-- a refused file "is refused before any event": none of its events runs
unfoldable pub events_in : File → List Event
events_in (bad code) = []
events_in (good es) = es

-- "(standard input, fresh host) .. then a line for each"
unfoldable pub text_of_file : Engine → File → List ℕ
text_of_file engine f = first_line f ++ text_of 0 (events_in f) (run engine fresh_state (events_in f)).results

abbrev pub replayed : Engine → List ℕ → List ℕ
replayed engine file = text_of_file engine (file_of file)

-- ---- how far a replay has come

-- the host, the position of the next event, how many are left, and where the next body begins
pub record Stage : Type 0 where
  pub host : Host
  pub position : ℕ
  pub left : ℕ
  pub at : ℕ

-- .. as a host and what was answered have it
abbrev pub stage_in : Host → Progress → Stage
stage_in x p = record { host = x; position = p.position; left = p.left; at = p.at }

-- behind the first line: the host is fresh, all events are left, and their bodies lie behind the table
unfoldable pub start_of : List ℕ → Stage
start_of file =
    let n = length (events_in (file_of file)) in
    record { host = host_of fresh_state; position = 0; left = n; at = table_end n }

-- what the engine gives for the next event, and its line
abbrev pub next_result : Engine → List ℕ → Stage → Result
next_result engine file s = event (waker engine) (state_in s.host) (event_at file s.at)

unfoldable pub next_line : Engine → List ℕ → Stage → List ℕ
next_line engine file s = line_of s.position (event_at file s.at) (next_result engine file s)

-- behind the next event
unfoldable pub onward : Engine → List ℕ → Stage → Stage
onward engine file s =
    record { host = host_of (next_result engine file s).state; position = s.position + 1; left = s.left - 1; at = next_at file s.at }

-- behind the next n events
unfoldable pub ahead : Engine → List ℕ → Stage → ℕ → Stage
ahead engine file s zero = s
ahead engine file s (suc n) = onward engine file (ahead engine file s n)

-- behind all events of a file
abbrev pub last_stage : Engine → List ℕ → Stage
last_stage engine file = ahead engine file (start_of file) (start_of file).left

-- The one premise of a piece: host and progress are those of a start, or came back from a piece, of either engine.
pub data Came (file : List ℕ) : Stage → Type 0 where
  started : Came file (start_of file)
  went : {s : Stage} → Came file s → 0 < s.left → (engine : Engine) → Came file (onward engine file s)

-- ---- piece by piece, each into a lent buffer

-- what a start or a piece leaves: how far the replay has come, and the buffer, with so many bytes written
pub record Wrote : Type 0 where
  pub stage : Stage
  pub written : ℕ
  pub out : List ℕ

abbrev pub wrote : Stage → ℕ → List ℕ → Wrote
wrote s n out = record { stage = s; written = n; out = out }

-- .. as a host, what was answered, and a buffer have it
abbrev pub wrote_in : Host → Progress → List ℕ → Wrote
wrote_in x p out = wrote (stage_in x p) p.written out

-- behind a start
unfoldable pub begun : List ℕ → List ℕ → Wrote
begun file out =
    let put = put_line out 0 (first_line (file_of file)) in
    wrote (start_of file) put.0 put.1

-- the line of an event's reply, with the list of wakings that the event was lent, and the numbers that it read
abbrev pub reply_text : ℕ → List Place → List ℕ → Reply → List ℕ
reply_text position list numbers (Told t) = event_text position t.code t.position t.value t.looks (wakings_in t.woken list)
reply_text position list numbers (Seen q) = query_text position q.code q.value q.last q.increase q.zero
reply_text position list numbers (Read q) = read_text position q.code numbers

-- events run, and their lines stand one behind the other from a position on, while any is left and any line has room. The
-- first number is that of the events left.
unfoldable pub piece_from : ℕ → Engine → List ℕ → Stage → ℕ → List ℕ → Wrote
piece_from zero engine file s at out = wrote s at out
piece_from (suc n) engine file s at out =
    let line = next_line engine file s in
    cond (has_room out at) (piece_from n engine file (onward engine file s) (at + length line) (written out at line)) (wrote s at out)

-- behind a piece
abbrev pub piece_of : Engine → List ℕ → Stage → List ℕ → Wrote
piece_of engine file s out = piece_from s.left engine file s 0 out

-- the texts of pieces one after another, while any event is left; the first number is at least that of the pieces
unfoldable pub texts_from : ℕ → Engine → List ℕ → Stage → List ℕ → List ℕ
texts_from zero engine file s out = []
texts_from (suc n) engine file s out =
    let w = piece_of engine file s out in
    cond (ltb 0 s.left) (take w.written w.out ++ texts_from n engine file w.stage w.out) []

-- the text of a start and of all pieces behind it
unfoldable pub together : Engine → List ℕ → List ℕ → List ℕ
together engine file out =
    let w = begun file out in
    take w.written w.out ++ texts_from w.stage.left engine file w.stage w.out
