use Prim.Native.Nat.{◌≤◌}
use mathlib.Core.Path.{ap, sym, ◌∙◌}
use native.Mathlib.Omega.{arith}
use Rattle.runfile.specs.File.{code_in}
use Rattle.runfile.proofs.Walk.{is_good, code_of_bad}
use Rattle.lines.proofs.Writing.{line_fits}
use Rattle.replaying.proofs.Starts.{bad_begun, good_begun}
use Rattle.replaying.proofs.start.Goals as goal
use Rattle.replaying.proofs.start.Goals.{Joined-check, in-Ok, in-Err}

-- either line, and how many events it leaves
few : (c : Joined-check) → c.match-check.left.0 ≤ 65535
few c =
    elim c.match-check.branch [
      | in-Ok v ↦ (
          let g = is_good c.args.file.now (sym c.check.ensures ∙ ap code_in v.in-Ok.is) in
          rw v.left-is (omega (arith, v.count-events.ensures, g.short, g.table))
          )
      | in-Err v ↦ rw v.left-is (omega arith)
    ]

pub overflow_mul-result : goal.overflow_mul-result
overflow_mul-result c = omega (arith, few (goal.at.overflow_mul-result c).Joined-check)

pub overflow_add-result : goal.overflow_add-result
overflow_add-result c = omega (arith, few (goal.at.overflow_add-result c).Joined-check)

pub returns-clause-written_in_bounds : goal.returns-clause-written_in_bounds
returns-clause-written_in_bounds c =
    elim c.match-check.branch [
      | in-Ok v ↦ (
          let l = line_fits c.args.out.now _ 0 v.head_line.ensures.out_after v.head_line.ensures.upper_bound (omega arith) in
          rw v.left-is (omega (arith, c.match-check.auto.out))
          )
      | in-Err v ↦ (
          let l = line_fits c.args.out.now _ 0 v.bad_line.ensures.out_after v.bad_line.ensures.upper_bound (omega arith) in
          rw v.left-is (omega (arith, c.match-check.auto.out))
          )
    ]

pub returns-clause-out_after : goal.returns-clause-out_after
returns-clause-out_after c =
    elim c.match-check.branch [
      | in-Ok v ↦
          rw (v.out-is, v.left-is)
          (good_begun c.args.file.now c.args.out.now (sym c.check.ensures ∙ ap code_in v.in-Ok.is) v.count-events.ensures v.head_line.ensures.out_after)
      | in-Err v ↦
          rw (v.out-is, v.left-is)
          (bad_begun c.args.file.now c.args.out.now (v.from.ensures ∙ sym (ap code_in v.in-Err.is) ∙ c.check.ensures) (λ z. code_of_bad v.in-Err.bad (sym v.from.ensures ∙ z)) v.bad_line.ensures.out_after)
    ]
