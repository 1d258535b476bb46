-- "A table of contents first, then the bodies".
use Rattle.std.specs.Prelude.{ℕ, zero, suc, ◌+◌, ◌*◌, Bool, cond, ◌&&◌, List, [], ◌∷◌, ltb, eqb, length}
use Rattle.runfile.specs.Fields.{half_at}

-- "at most 65,535 bytes"
abbrev pub file_max : ℕ
file_max = 65535

-- "Two bytes: number of events."
abbrev pub head_bytes : ℕ
head_bytes = 2

unfoldable pub count_in : List ℕ → ℕ
count_in file = cond (ltb (length file) head_bytes) 0 (half_at file 0)

-- "For each, four bytes: offset from the file's start, length."
abbrev pub entry_bytes : ℕ
entry_bytes = 4

pub record Entry : Type 0 where
  pub offset : ℕ
  pub size : ℕ

abbrev pub entry_at : List ℕ → ℕ → Entry
entry_at file at = record { offset = half_at file at; size = half_at file (at + 2) }

-- so many entries from a position on
unfoldable pub entries_from : List ℕ → ℕ → ℕ → List Entry
entries_from file at zero = []
entries_from file at (suc n) = entry_at file at ∷ entries_from file (at + entry_bytes) n

-- the table of n events, and where it ends
abbrev pub table_of : List ℕ → ℕ → List Entry
table_of file n = entries_from file head_bytes n

abbrev pub table_end : ℕ → ℕ
table_end n = head_bytes + entry_bytes * n

-- "The first body begins right behind the table, each next where the last ended, and the file ends with the last body (with no
-- events, the table)": does a chain that is due at a position end with the file?
unfoldable pub chains : ℕ → List Entry → ℕ → Bool
chains at [] end = eqb at end
chains at (e ∷ es) end = eqb e.offset at && chains (at + e.size) es end
