-- Writing a text into a lent buffer.
use Rattle.std.specs.Prelude.{ℕ, ◌+◌, ◌*◌, ◌≤◌, ◌≡◌, Bool, cond, List, leb, length}
use Rattle.std.proofs.Math.Seq.{paste}
use Rattle.model.specs.Limits.{semaphores}
use Rattle.lines.specs.declared.writer.Writer.{Writer}

-- the buffer with a text at a position, and everything else as it was
abbrev pub written : List ℕ → ℕ → List ℕ → List ℕ
written out at text = paste out at text (length text)

-- a text was written where there was room for it; the last argument is the position behind it
pub record Put (out : List ℕ) (at : ℕ) (text after : List ℕ) (next : ℕ) : Type 0 where
  pub room : at + length text ≤ length out
  pub place : next ≡ at + length text
  pub buffer : after ≡ written out at text

-- a writer that held a buffer holds it still, and wrote a text that is no longer than this
pub record Wrote (most : ℕ) (before : Writer) (text : List ℕ) (after : Writer) : Type 0 where
  pub same_reference : after.out.ghost_name ≡ before.out.ghost_name
  pub put : Put before.out.now before.at text after.out.now after.at
  pub short : length text ≤ most
  pub same_length : length after.out.now ≡ length before.out.now

-- an at sign, and a position of three digits
abbrev pub position_bytes : ℕ
position_bytes = 4

-- a blank, a process, a sign of equality, a code, and the operation that decided
abbrev pub waking_bytes : ℕ
waking_bytes = 27

-- a position and a code, with a blank between
abbrev pub opening_bytes : ℕ
opening_bytes = 32

-- a blank and a number of 32 bits
abbrev pub number_bytes : ℕ
number_bytes = 11

-- no line is longer than that of a reading: an opening, three numbers for each of eight semaphores, and a newline
abbrev pub line_bytes : ℕ
line_bytes = opening_bytes + 3 * semaphores * number_bytes + 1

-- is there room for any line?
abbrev pub has_room : List ℕ → ℕ → Bool
has_room out at = leb (at + line_bytes) (length out)

-- a line is written if there is room for any, else nothing is changed: the position behind it, and the buffer
unfoldable pub put_line : List ℕ → ℕ → List ℕ → ℕ × List ℕ
put_line out at line = cond (has_room out at) (at + length line, written out at line) (at, out)
