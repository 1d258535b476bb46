-- No proper beginning of a good file is a good file: it is refused before any of its events, with 201 where the head or the
-- table is cut off, else with 202. So a file of which only a beginning could be read never passes for another one.
use Prim.Native.Nat.{ℕ, zero, suc, ◌+◌, ◌*◌, ◌<◌, ◌≤◌}
use mathlib.Core.Path.{◌≡◌, refl, sym, ◌∙◌}
use mathlib.Core.Bool.{Bool, true, false, cond}
use mathlib.Core.List.{List, [], ◌∷◌}
use native.Mathlib.Omega.{arith}
use lib.Dec.{eqb, ltb}
use lib.ListN.{length, take}
use lib.Seq.{length-take-le, get_or-take}
use borrow.Author.Tests.{ltb-true, ltb-false, lt-ltb, le-ltb, eqb-true, ne_eqb}
use Rattle.model.proofs.CheckLaws.{and_true}
use Rattle.runfile.specs.Fields.{half_at}
use Rattle.runfile.specs.Table.{file_max, head_bytes, entry_bytes, count_in, Entry, entries_from, table_of, table_end, chains}
use Rattle.runfile.specs.File.{bad, file_of, code_of_file}
use Rattle.runfile.proofs.Walk.{GoodFile, is_good}

-- ---- what a beginning still says

half_begun : (file : List ℕ) (n at : ℕ) → at + 1 < n → half_at (take n file) at ≡ half_at file at
half_begun file n at h =
    let low = get_or-take n file at 0 (omega arith) in
    let high = get_or-take n file (at + 1) 0 h in
    rw (low, high)

entries_begun : (file : List ℕ) (n from k : ℕ) → from + entry_bytes * k ≤ n → entries_from (take n file) from k ≡ entries_from file from k
unfolding entries_from
entries_begun file n from zero h = refl
entries_begun file n from (suc k) h =
    let offset = half_begun file n from (omega arith) in
    let size = half_begun file n (from + 2) (omega arith) in
    rw (offset, size, entries_begun file n (from + entry_bytes) k (omega arith))

-- a chain has one end
one_end : (at : ℕ) (es : List Entry) (end other : ℕ) → chains at es end ≡ true → (end ≡ other → ⊥) → chains at es other ≡ false
unfolding chains
one_end at [] end other c h = ne_eqb at other (λ e. h (sym (eqb-true at end c) ∙ e))
one_end at (e ∷ es) end other c h =
    let b = and_true (eqb e.offset at) (chains (at + e.size) es end) c in
    rw (b.0, one_end (at + e.size) es end other b.1 h)

-- ---- the code of a beginning

module _ (file : List ℕ) (n : ℕ) (h : n < length file) where
  begun_long : length (take n file) ≡ n
  begun_long = length-take-le n file (omega arith)

  count_begun : head_bytes ≤ n → count_in (take n file) ≡ count_in file
  unfolding count_in
  count_begun k =
      let cut = le-ltb n head_bytes k in
      let whole = le-ltb (length file) head_bytes (omega arith) in
      rw (begun_long, cut, whole, half_begun file n 0 (omega arith))

  module _ (g : GoodFile file) where
    fits : ltb file_max n ≡ false
    fits = le-ltb file_max n (omega (arith, g.short))

    cut_head : n < head_bytes → file_of (take n file) ≡ bad 201
    unfolding file_of
    cut_head k = rw (begun_long, fits, lt-ltb n head_bytes k)

    cut_table : head_bytes ≤ n → n < table_end (count_in file) → file_of (take n file) ≡ bad 201
    unfolding file_of
    cut_table k l = rw (begun_long, fits, le-ltb n head_bytes k, count_begun k, lt-ltb n (table_end (count_in file)) l)

    cut_bodies : table_end (count_in file) ≤ n → file_of (take n file) ≡ bad 202
    unfolding file_of
    cut_bodies l =
        let k : head_bytes ≤ n = omega arith in
        let entries = entries_begun file n head_bytes (count_in file) l in
        let other = one_end (table_end (count_in file)) (table_of file (count_in file)) (length file) n g.chain (λ e. omega arith) in
        rw (begun_long, fits, le-ltb n head_bytes k, count_begun k, le-ltb n (table_end (count_in file)) l, entries, other)

-- a beginning of n bytes is refused
pub beginning : (file : List ℕ) (n : ℕ) → code_of_file file ≡ 0 → n < length file
    → file_of (take n file) ≡ bad (cond (ltb n (table_end (count_in file))) 201 202)
beginning file n good h = by (ltb n head_bytes) (ltb n (table_end (count_in file))) refl refl
  where
    by : (head table : Bool) → ltb n head_bytes ≡ head → ltb n (table_end (count_in file)) ≡ table → file_of (take n file) ≡ bad (cond table 201 202)
    by true true k l = cut_head file n h (is_good file good) (ltb-true _ _ k)
    by false true k l = cut_table file n h (is_good file good) (ltb-false _ _ k) (ltb-true _ _ l)
    by head false k l = cut_bodies file n h (is_good file good) (ltb-false _ _ l)
