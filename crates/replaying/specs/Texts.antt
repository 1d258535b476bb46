-- What is claimed of whole texts: of both engines' for one file, of a beginning, of a refused file's, and of the host behind
-- the last line.
use Rattle.std.specs.Prelude.{ℕ, ◌≤◌, ◌≡◌, List, [], ◌++◌, ℤ, length, take}
use Rattle.model.specs.declared.Engine.{Engine}
use Rattle.model.specs.declared.Waking.{Waking}
use Rattle.model.specs.State.{fresh_state}
use Rattle.model.specs.Runs.{run}
use Rattle.host.specs.Holding.{host_of}
use Rattle.runfile.specs.File.{File, file_of}
use Rattle.lines.specs.Text.{bad_line, event_text, query_text, read_text}
use Rattle.replaying.specs.Replay.{first_line, events_in, replayed, Stage, last_stage, begun, texts_from}
use Rattle.model.specs.Judge.{Position}

-- a whole line of the quick and of the plain engine: the same first line, the same line of a query or of a reading, or lines of an
-- event that differ in the looks alone
pub data LinesAlike : List ℕ → List ℕ → Type 0 where
  same_first : (f : File) → LinesAlike (first_line f) (first_line f)
  same_query : (position : ℕ) (code : ℤ) (value last for_increase for_zero : ℕ)
      → LinesAlike (query_text position code value last for_increase for_zero) (query_text position code value last for_increase for_zero)
  same_reading : (position : ℕ) (code : ℤ) (numbers : List ℕ) → LinesAlike (read_text position code numbers) (read_text position code numbers)
  other_looks : (position : ℕ) (code : ℤ) (decided : Position) (value quick plain : ℕ) (wakings : List Waking) → quick ≤ plain → plain ≤ 28
      → LinesAlike (event_text position code decided value quick wakings) (event_text position code decided value plain wakings)

-- two texts, line by line
pub data TextsAlike : List ℕ → List ℕ → Type 0 where
  no_line : TextsAlike [] []
  and_line : {a b x y : List ℕ} → LinesAlike a b → TextsAlike x y → TextsAlike (a ++ x) (b ++ y)

-- the texts of a start and of the first k pieces behind it, each into the same buffer
abbrev pub firsts : Engine → List ℕ → List ℕ → ℕ → List ℕ
firsts engine file out k = let w = begun file out in take w.written w.out ++ texts_from k engine file w.stage w.out

-- behind the last line: the host is that of the run of the file's events, and none of them is left
pub record RanAll (engine : Engine) (file : List ℕ) (s : Stage) : Type 0 where
  pub host : s.host ≡ host_of (run engine fresh_state (events_in (file_of file))).last
  pub position : s.position ≡ length (events_in (file_of file))
  pub left : s.left ≡ 0

-- a file that is refused with a code: one line, and a host to which nothing has happened
pub record RanNothing (engine : Engine) (file : List ℕ) (code : ℕ) : Type 0 where
  pub text : replayed engine file ≡ bad_line code
  pub host : (last_stage engine file).host ≡ host_of fresh_state
