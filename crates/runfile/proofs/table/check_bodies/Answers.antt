use Prim.Native.Nat.{◌+◌, ◌<◌}
use mathlib.Core.Path.{◌≡◌, ap, sym, ◌∙◌}
use mathlib.Core.Bool.{cond}
use native.Mathlib.Omega.{arith}
use lib.Dec.{eqb}
use lib.ListN.{length}
use borrow.Author.Tests.{eq-eqb, ne_eqb}
use Rattle.runfile.specs.Fields.{half_at}
use Rattle.runfile.specs.Body.{body_code}
use Rattle.runfile.specs.Table.{table_end}
use Rattle.runfile.specs.File.{bodies_of, bad_code, code_in}
use Rattle.runfile.proofs.Loops.{table_from, entries_count, half_in_entry, first_of, code_next_of, code_kept, code_from, code_whole, code_next, code_stop, code_end}
use Rattle.runfile.proofs.table.check_bodies.Goals as goal
use Rattle.runfile.proofs.table.check_bodies.Goals.{After-from_le_bytes-size, After-loop-entry, Joined-is_ok, then-is_ok, else-is_ok}

-- an entry of the n
within : (c : After-from_le_bytes-size) → c.loop-entry.entry-index < c.args.n
within c = omega (arith, c.loop-entry-test.true, c.as_chunks.ensures.front_len, entries_count c.args.file.now c.args.n c.requires)

offset-is : (c : After-from_le_bytes-size) → c.from_le_bytes-offset.result ≡ half_at c.args.file.now (table_end c.loop-entry.entry-index)
offset-is c = half_in_entry c.args.file.now c.args.n c.requires _ c.loop-entry.entry-index 0 _ c.as_chunks.ensures.front (within c) (omega arith) (omega arith) c.from_le_bytes-offset.ensures

size-is : (c : After-from_le_bytes-size) → c.from_le_bytes-size.result ≡ half_at c.args.file.now (table_end c.loop-entry.entry-index + 2)
size-is c = half_in_entry c.args.file.now c.args.n c.requires _ c.loop-entry.entry-index 2 _ c.as_chunks.ensures.front (within c) (omega arith) (omega arith) c.from_le_bytes-size.ensures

-- behind the last body
ended : (c : After-loop-entry)
    → bad_code (bodies_of c.args.file.now c.args.n)
    ≡ cond (eqb c.loop-entry.at (length c.args.file.now)) (code_in c.loop-entry.bodies) 202
ended c =
    let a = c.args in
    let l = c.loop-entry in
    let e : l.entry-index ≡ a.n = omega (arith, c.loop-entry-test.false, c.as_chunks.ensures.front_len, l.auto.entry-index-end, entries_count a.file.now a.n c.requires) in
    l.invariant.1 ∙ ap (λ j. code_from a.file.now (code_in l.bodies) l.at (table_from a.file.now a.n j)) e ∙ code_end a.file.now a.n (code_in l.bodies) l.at

pub loop-entry-init : goal.loop-entry-init
loop-entry-init c = (omega arith, code_whole c.args.file.now c.args.n)

pub returns-then-offset-at : goal.returns-then-offset-at
returns-then-offset-at c =
    let a = c.args in
    let l = c.loop-entry in
    let s = (goal.at.returns-then-offset-at c).After-from_le_bytes-size in
    sym (l.invariant.1 ∙ code_stop a.file.now a.n l.entry-index (code_in l.bodies) l.at (within s) (λ e. c.if-offset-at.true (offset-is s ∙ e)))

-- the code with this body's, which is asked for where no one before is bad
next_code : (c : Joined-is_ok) → code_in c.if-is_ok.bodies ≡ first_of (code_in c.loop-entry.bodies) (body_code c.args.file.now c.loop-entry.at c.from_le_bytes-size.result)
next_code c =
    let old = c.loop-entry.bodies in
    elim c.if-is_ok.branch [
      | then-is_ok w ↦
          rw w.bodies-is (code_next_of old _ (sym c.is_ok.ensures.value ∙ w.if-is_ok.true) ∙ ap (first_of (code_in old)) w.check_body-bodies.ensures)
      | else-is_ok w ↦ rw w.bodies-is (code_kept old (sym c.is_ok.ensures.value ∙ w.if-is_ok.false) _)
    ]

pub loop-entry-preserved : goal.loop-entry-preserved
loop-entry-preserved c =
    let a = c.args in
    let l = c.loop-entry in
    let s = (goal.at.loop-entry-preserved c).After-from_le_bytes-size in (
      omega (arith, c.from_le_bytes-offset.type_inv, c.from_le_bytes-size.type_inv),
      l.invariant.1 ∙ code_next a.file.now a.n l.entry-index (code_in l.bodies) l.at (within s) (sym (offset-is s) ∙ c.if-offset-at.false) (size-is s) (next_code c),
    )

pub returns-then-at-file : goal.returns-then-at-file
returns-then-at-file c = sym (ended (goal.at.returns-then-at-file c).After-loop-entry ∙ rw (eq-eqb _ _ c.if-at-file.true))

pub returns-else-at-file : goal.returns-else-at-file
returns-else-at-file c = sym (ended (goal.at.returns-else-at-file c).After-loop-entry ∙ rw (ne_eqb _ _ c.if-at-file.false))
