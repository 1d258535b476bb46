-- What a walk along the bodies of a good file goes by: its events are those decoded from the end of the table on, each body
-- where the last ended, and every body lies within the file.
use Prim.Native.Nat.{ℕ, zero, suc, ◌+◌, ◌-◌, ◌<◌, ◌≤◌}
use mathlib.Core.Path.{◌≡◌, refl, ◌∙◌}
use mathlib.Core.Bool.{Bool, true, false, cond}
use mathlib.Core.List.{List, ◌∷◌}
use native.Mathlib.Omega.{arith}
use lib.Dec.{eqb}
use lib.ListN.{length}
use borrow.Author.Tests.{ltb-false, eqb-true}
use Rattle.model.specs.Events.{Event}
use Rattle.model.proofs.CheckLaws.{and_true}
use Rattle.runfile.specs.Table.{file_max, head_bytes, entry_bytes, count_in, Entry, entry_at, entries_from, table_of, table_end, chains}
use Rattle.runfile.specs.Body.{size_at, event_at, body_code, next_at, events_from}
use Rattle.runfile.specs.declared.bad_file.BadFile.{BadFile}
use Rattle.runfile.specs.declared.bad_file.BadFile.TheVariants.{Table, Offsets, UnknownKind, Size}
use Rattle.runfile.specs.File.{File, bad, good, before, events_of, file_of, bad_code, code_of_file, code_of}

-- so many bodies from a position on, the last of which ends the file
pub data Bodies (file : List ℕ) : ℕ → ℕ → Type 0 where
  end : {at : ℕ} → at ≡ length file → Bodies file at zero
  next : {at n : ℕ} → Bodies file (next_at file at) n → Bodies file at (suc n)

-- ---- what the code 0 tells

no_code : (n : ℕ) {X : Type 0} → suc n ≡ 0 → X
no_code n z = absurd (no z)
  where
    no : suc n ≡ 0 → ⊥
    no z = omega arith

-- nothing that is wrong has the code 0
pub code_of_bad : (e : BadFile) → code_of e ≡ 0 → ⊥
code_of_bad Table h = omega arith
code_of_bad Offsets h = omega arith
code_of_bad UnknownKind h = omega arith
code_of_bad Size h = omega arith

-- the five tests of a file that passed
record Passed (long head table chain : Bool) (rest : File) : Type 0 where
  long_no : long ≡ false
  head_no : head ≡ false
  table_no : table ≡ false
  chain_yes : chain ≡ true
  bodies : bad_code rest ≡ 0

passed : (long head table chain : Bool) (rest : File)
    → bad_code (cond long (bad 201) (cond head (bad 201) (cond table (bad 201) (cond chain rest (bad 202))))) ≡ 0
    → Passed long head table chain rest
unfolding bad_code
passed true head table chain rest h = no_code 200 h
passed false true table chain rest h = no_code 200 h
passed false false true chain rest h = no_code 200 h
passed false false false false rest h = no_code 201 h
passed false false false true rest h =
    record { long_no = refl; head_no = refl; table_no = refl; chain_yes = refl; bodies = h }

-- a good file's head, table, chain and bodies
pub record GoodFile (file : List ℕ) : Type 0 where
  pub short : length file ≤ file_max
  pub head : head_bytes ≤ length file
  pub table : table_end (count_in file) ≤ length file
  pub chain : chains (table_end (count_in file)) (table_of file (count_in file)) (length file) ≡ true
  pub bodies : bad_code (events_of file (table_of file (count_in file))) ≡ 0
  pub is : file_of file ≡ events_of file (table_of file (count_in file))

pub is_good : (file : List ℕ) → code_of_file file ≡ 0 → GoodFile file
unfolding file_of
is_good file h =
    let p = passed _ _ _ _ (events_of file (table_of file (count_in file))) h in
    record {
      short = ltb-false _ _ p.long_no;
      head = ltb-false _ _ p.head_no;
      table = ltb-false _ _ p.table_no;
      chain = p.chain_yes;
      bodies = p.bodies;
      is = rw (p.long_no, p.head_no, p.table_no, p.chain_yes);
    }

-- ---- along the table

fine : (empty unknown right : Bool) → ◌≡◌ {A = ℕ} (cond empty 204 (cond unknown 203 (cond right 0 204))) 0 → right ≡ true
fine true unknown right h = no_code 203 h
fine false true right h = no_code 202 h
fine false false true h = refl
fine false false false h = no_code 203 h

-- the length of a body whose code is 0 is the one due
body_fine : (file : List ℕ) (at size : ℕ) → body_code file at size ≡ 0 → size ≡ size_at file at
unfolding body_code
body_fine file at size h = eqb-true size _ (fine (eqb size 0) (eqb (size_at file at) 0) (eqb size (size_at file at)) h)

first_fine : (code : ℕ) (e : Event) (rest : File) → bad_code (before code e rest) ≡ 0 → (code ≡ 0) × (bad_code rest ≡ 0)
unfolding bad_code
first_fine zero e (good es) h = (refl, h)
first_fine zero e (bad code) h = (refl, h)
first_fine (suc code) e rest h = no_code code h

pub within : {file : List ℕ} {at n : ℕ} → Bodies file at n → at ≤ length file
within (end e) = omega arith
within (next bs) = omega (arith, within bs)

record Walked (file : List ℕ) (es : List Entry) (at n : ℕ) : Type 0 where
  events : events_of file es ≡ good (events_from file at n)
  bodies : Bodies file at n

walked : (file : List ℕ) (n from at : ℕ) → chains at (entries_from file from n) (length file) ≡ true
    → bad_code (events_of file (entries_from file from n)) ≡ 0 → Walked file (entries_from file from n) at n
unfolding entries_from chains events_of events_from
walked file zero from at h k = record { events = refl; bodies = end (eqb-true _ _ h) }
walked file (suc n) from at h k =
    let e = entry_at file from in
    let c = and_true _ _ h in
    let f = first_fine _ _ _ k in
    let o : e.offset ≡ at = eqb-true _ _ c.0 in
    let b = rw o at (body_fine file e.offset e.size f.0) in
    let w = walked file n (from + entry_bytes) (next_at file at) (rw b at c.1) f.1 in
    record {
      events = rw (f.0, o, w.events);
      bodies = next w.bodies;
    }

-- ---- a good file

module _ (file : List ℕ) (h : code_of_file file ≡ 0) where
  walk : Walked file (table_of file (count_in file)) (table_end (count_in file)) (count_in file)
  walk = walked file (count_in file) head_bytes (table_end (count_in file)) (is_good file h).chain (is_good file h).bodies

  -- its events are those decoded from the end of the table on
  pub good_events : file_of file ≡ good (events_from file (table_end (count_in file)) (count_in file))
  good_events = (is_good file h).is ∙ walk.events

  pub good_bodies : Bodies file (table_end (count_in file)) (count_in file)
  good_bodies = walk.bodies

-- any other code refuses the file
pub bad_code_lem : (file : List ℕ) → (code_of_file file ≡ 0 → ⊥) → file_of file ≡ bad (code_of_file file)
unfolding bad_code
bad_code_lem file h = by (file_of file) h
  where
    by : (f : File) → (bad_code f ≡ 0 → ⊥) → f ≡ bad (bad_code f)
    by (bad code) h = refl
    by (good es) h = absurd (h refl)

-- ---- a turn of the walk, with n bodies left

module _ (file : List ℕ) (at : ℕ) where
  pub events_turn : (n : ℕ) → 0 < n → events_from file at n ≡ event_at file at ∷ events_from file (next_at file at) (n - 1)
  unfolding events_from
  events_turn zero h = absurd (omega arith)
  events_turn (suc n) h = let e : suc n - 1 ≡ n = omega arith in rw e

  pub bodies_turn : (n : ℕ) → 0 < n → Bodies file at n → Bodies file (next_at file at) (n - 1)
  bodies_turn zero h bs = absurd (omega arith)
  bodies_turn (suc n) h (next bs) = let e : suc n - 1 ≡ n = omega arith in rw e bs
