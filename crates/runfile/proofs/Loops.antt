-- What a turn of `check_bodies` goes by: the table from its k-th entry on.
use Prim.Native.Nat.{ℕ, zero, suc, ◌+◌, ◌*◌, ◌-◌, ◌/◌, ◌<◌, ◌≤◌}
use native.Mathlib.Nat.{mul-suc}
use mathlib.Core.Path.{◌≡◌, refl, sym, ap, ◌∙◌}
use mathlib.Core.Bool.{Bool, true, false, cond}
use mathlib.Core.List.{List, [], ◌∷◌}
use native.Mathlib.Omega.{arith}
use lib.Dec.{eqb}
use lib.ListN.{length, take, drop, get_or, length-drop}
use lib.Seq.{length-take-le, get_or-take}
use Rattle.std.specs.Simd.{first_chunks}
use Rattle.std.proofs.lemmas.List.{get_or-drop, drop-drop}
use Rattle.runfile.specs.Fields.{byte_at, half_at}
use borrow.Author.Tests.{eq-eqb, ne_eqb}
use Rattle.std.specs.Prelude.{Result, Ok, Err}
use Rattle.std.specs.Result.{is_ok, result_and}
use Rattle.std.proofs.Common.{true≢false}
use Rattle.model.specs.Events.{Event}
use Rattle.runfile.specs.Table.{head_bytes, entry_bytes, Entry, entry_at, entries_from, table_of, table_end, chains}
use Rattle.runfile.specs.Body.{body_code}
use Rattle.runfile.specs.declared.bad_file.BadFile.{BadFile}
use Rattle.runfile.specs.declared.bad_file.BadFile.TheVariants.{Table, Offsets, UnknownKind, Size}
use Rattle.runfile.specs.File.{File, bad, good, before, events_of, bodies_of, bad_code, code_in}

-- ---- the entries that are left of n when k are passed

abbrev pub table_from : List ℕ → ℕ → ℕ → List Entry
table_from file n k = entries_from file (table_end k) (n - k)

table_whole : (file : List ℕ) (n : ℕ) → table_of file n ≡ table_from file n 0
table_whole file n = let e : n ≡ n - 0 = omega arith in ap (entries_from file head_bytes) e

table_next : (file : List ℕ) (n k : ℕ) → k < n → table_from file n k ≡ entry_at file (table_end k) ∷ table_from file n (k + 1)
unfolding entries_from
table_next file n k h =
    let e : n - k ≡ suc (n - (k + 1)) = omega arith in
    let f : table_end k + entry_bytes ≡ table_end (k + 1) = omega arith in
    rw (e, f)

table_end_lem : (file : List ℕ) (n : ℕ) → table_from file n n ≡ []
unfolding entries_from
table_end_lem file n = let e : n - n ≡ zero = omega arith in rw e

-- ---- the entries as the code has them, in fours of bytes

chunk_at : (m count k : ℕ) (xs : List ℕ) → k < count → get_or (first_chunks m count xs) k [] ≡ take m (drop (m * k) xs)
chunk_at m zero k xs h = absurd (omega arith)
chunk_at m (suc count) zero xs h = let e : m * 0 ≡ 0 = omega arith in rw e
chunk_at m (suc count) (suc k) xs h =
    let e : m * suc k ≡ m + m * k = omega (arith, mul-suc m k) in
    rw (e, ← drop-drop (m * k) m xs) (chunk_at m count k (drop m xs) (omega arith))

module _ (file : List ℕ) (n : ℕ) (h : table_end n ≤ length file) where
  abbrev pub entries_bytes : List ℕ
  entries_bytes = take (table_end n - head_bytes) (drop head_bytes file)

  length-entries : length entries_bytes ≡ 4 * n
  length-entries = length-take-le _ (drop head_bytes file) (simp length-drop (omega arith)) ∙ omega arith

  -- there are n of them
  pub entries_count : length entries_bytes / 4 ≡ n
  entries_count = omega (arith, length-entries)

  byte_in_entry : (k i : ℕ) → k < n → i < 4 → get_or (get_or (first_chunks 4 n entries_bytes) k []) i 0 ≡ byte_at file (table_end k + i)
  byte_in_entry k i p q =
      let e : 2 + (4 * k + i) ≡ table_end k + i = omega arith in
      rw (chunk_at 4 n k entries_bytes p, get_or-take 4 (drop (4 * k) entries_bytes) i 0 q, get_or-drop (4 * k) entries_bytes i 0, get_or-take (table_end n - head_bytes) (drop head_bytes file) (4 * k + i) 0 (omega arith), get_or-drop head_bytes file (4 * k + i) 0, e)

  -- a half of the k-th
  pub half_in_entry : {half : ℕ} (entries : List (List ℕ)) (k i at : ℕ) → entries ≡ first_chunks 4 (length entries_bytes / 4) entries_bytes → k < n
      → i < 3 → at ≡ table_end k + i → half ≡ get_or (get_or entries k []) i 0 + get_or (get_or entries k []) (i + 1) 0 * 256 → half ≡ half_at file at
  half_in_entry entries k i at is p q e r =
      let e' : at + 1 ≡ table_end k + (i + 1) = omega arith in
      let f : entries ≡ first_chunks 4 n entries_bytes = rw entries_count at is in
      r ∙ rw (f, byte_in_entry k i p (omega arith), byte_in_entry k (i + 1) p (omega arith), e', e) (omega arith)

-- ---- the first code that is not 0

abbrev pub first_of : ℕ → ℕ → ℕ
first_of zero next = next
first_of (suc code) next = suc code

first_last : (code : ℕ) → first_of code 0 ≡ code
first_last zero = refl
first_last (suc code) = refl

first_twice : (a b c : ℕ) → first_of a (first_of b c) ≡ first_of (first_of a b) c
first_twice zero b c = refl
first_twice (suc a) b c = refl

first_before : (code : ℕ) (e : Event) (rest : File) → bad_code (before code e rest) ≡ first_of code (bad_code rest)
unfolding bad_code
first_before zero e (bad code) = refl
first_before zero e (good es) = refl
first_before (suc code) e rest = refl

-- .. as `and` keeps the first error
pub code_and : (a b : Result Unit BadFile) → code_in (result_and a b) ≡ first_of (code_in a) (code_in b)
code_and (Ok x) b = refl
code_and (Err Table) b = refl
code_and (Err Offsets) b = refl
code_and (Err UnknownKind) b = refl
code_and (Err Size) b = refl

-- .. so what is next counts where there was none, and else does not
pub code_next_of : (a b : Result Unit BadFile) → is_ok a ≡ true → code_in b ≡ first_of (code_in a) (code_in b)
code_next_of (Ok x) b h = code_and (Ok x) b
code_next_of (Err e) b h = absurd (true≢false (sym h))

pub code_kept : (a : Result Unit BadFile) → is_ok a ≡ false → (next : ℕ) → code_in a ≡ first_of (code_in a) next
code_kept (Ok x) h next = absurd (true≢false h)
code_kept (Err Table) h next = refl
code_kept (Err Offsets) h next = refl
code_kept (Err UnknownKind) h next = refl
code_kept (Err Size) h next = refl

-- ---- the code of a file whose next body is due at a position, with the code of those before it

unfoldable pub code_from : List ℕ → ℕ → ℕ → List Entry → ℕ
code_from file code at es = cond (chains at es (length file)) (first_of code (bad_code (events_of file es))) 202

pub code_whole : (file : List ℕ) (n : ℕ) → bad_code (bodies_of file n) ≡ code_from file 0 (table_end n) (table_from file n 0)
unfolding code_from bad_code
code_whole file n = by (chains (table_end n) (table_of file n) (length file)) ∙ ap (λ es. code_from file 0 (table_end n) es) (table_whole file n)
  where
    by : (b : Bool) → bad_code (cond b (events_of file (table_of file n)) (bad 202)) ≡ cond b (bad_code (events_of file (table_of file n))) 202
    by true = refl
    by false = refl

module _ (file : List ℕ) (n k code at : ℕ) (h : k < n) where
  -- the next body begins where it is due
  pub code_next : {size next : ℕ} → (entry_at file (table_end k)).offset ≡ at → size ≡ (entry_at file (table_end k)).size → next ≡ first_of code (body_code file at size)
      → code_from file code at (table_from file n k) ≡ code_from file next (at + size) (table_from file n (k + 1))
  unfolding code_from chains events_of
  code_next o s c =
      rw (table_next file n k h, eq-eqb _ _ o, first_before, first_twice, o, ← s, ← c)

  -- it begins elsewhere
  pub code_stop : ((entry_at file (table_end k)).offset ≡ at → ⊥) → code_from file code at (table_from file n k) ≡ 202
  unfolding code_from chains
  code_stop o = rw (table_next file n k h, ne_eqb _ _ o)

-- all are passed
pub code_end : (file : List ℕ) (n code at : ℕ) → code_from file code at (table_from file n n) ≡ cond (eqb at (length file)) code 202
unfolding code_from chains events_of bad_code
code_end file n code at = rw (table_end_lem file n, first_last code)
