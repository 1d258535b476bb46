use Prim.Native.Nat.{◌*◌, ◌<◌}
use native.Mathlib.Omega.{arith}
use borrow.Author.Rules.{rules}
use Rattle.std.proofs.lemmas.Result.{err_from_is_err_and}
use Rattle.runfile.proofs.Sizes.{few}
use Rattle.runfile.proofs.bodies.parts_in.Goals as goal
use Rattle.runfile.proofs.bodies.parts_in.Goals.{After-byte_at}

pub returns-in_err-kind_in : goal.returns-in_err-kind_in
returns-in_err-kind_in c =
    let p = err_from_is_err_and c.from_residual.result c.from_residual.ensures.1 in
    rw (p.1, p.2) c.in_err-kind_in.ensures

-- the operations or values are few
few-items : (c : After-byte_at) → c.layout-fixed.result.1 * c.byte_at.result < 2048
few-items c = few {each = c.layout-fixed.result.1} {number = c.byte_at.result} c.layout-fixed.ensures.bounds.2 (search rules)

pub overflow_mul-result : goal.overflow_mul-result
overflow_mul-result c = record { fits = omega (arith, few-items c) }

pub returns : goal.returns
returns c =
    let l = c.layout-fixed.ensures in (
      rw (l.by_number.0, c.in_ok-kind_in.ensures),
      rw (l.by_number.1, c.byte_at.ensures, l.by_number.0, c.in_ok-kind_in.ensures),
      l.bounds.0,
      l.bounds.1,
      few-items c,
    )
