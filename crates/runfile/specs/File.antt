-- A run file's events, or the code it is refused with.
use Rattle.std.specs.Prelude.{ℕ, zero, suc, cond, List, [], ◌∷◌, ltb, length, Result, Ok, Err}
use Rattle.model.specs.Events.{Event}
use Rattle.runfile.specs.Table.{file_max, head_bytes, count_in, Entry, table_of, table_end, chains}
use Rattle.runfile.specs.declared.bad_file.BadFile.{BadFile}
use Rattle.runfile.specs.declared.bad_file.BadFile.TheVariants.{Table, Offsets, UnknownKind, Size}
use Rattle.runfile.specs.Body.{body_code, event_at}

pub data File : Type 0 where
  bad : ℕ → File
  good : List Event → File

-- an event before others, and its body's code: the first bad event decides
abbrev pub before : ℕ → Event → File → File
before zero e (good es) = good (e ∷ es)
before zero e (bad code) = bad code
before (suc code) e rest = bad (suc code)

-- "then by event"
unfoldable pub events_of : List ℕ → List Entry → File
events_of file [] = good []
events_of file (e ∷ es) = before (body_code file e.offset e.size) (event_at file e.offset) (events_of file es)

-- "offsets or end not as said: 202; then by event", with a table of n entries
abbrev pub bodies_of : List ℕ → ℕ → File
bodies_of file n = cond (chains (table_end n) (table_of file n) (length file)) (events_of file (table_of file n)) (bad 202)

-- "over 65,535 bytes, or head or table cut off: 201"
unfoldable pub file_of : List ℕ → File
file_of file =
    cond (ltb file_max (length file)) (bad 201)
    (cond (ltb (length file) head_bytes) (bad 201)
    (cond (ltb (length file) (table_end (count_in file))) (bad 201)
    (bodies_of file (count_in file))))

-- the code of a file, 0 if it is good
unfoldable pub bad_code : File → ℕ
bad_code (bad code) = code
bad_code (good es) = 0

abbrev pub code_of_file : List ℕ → ℕ
code_of_file file = bad_code (file_of file)

-- the code of what is wrong with a file: as above for the whole, and as in `body_code` for a body
abbrev pub code_of : BadFile → ℕ
code_of Table = 201
code_of Offsets = 202
code_of UnknownKind = 203
code_of Size = 204

-- the code that a check answers, 0 if all is good
abbrev pub code_in : {T : Type 0} → Result T BadFile → ℕ
code_in (Ok x) = 0
code_in (Err e) = code_of e
