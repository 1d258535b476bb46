use native.Mathlib.Omega.{arith}
use Rattle.std.proofs.lemmas.Result.{err_from_is_err_and}
use Rattle.runfile.specs.Body.{size_in}
use Rattle.runfile.proofs.Sizes.{size_none}
use Rattle.runfile.proofs.bodies.size_in.Goals as goal

pub returns-in_err-fixed : goal.returns-in_err-fixed
returns-in_err-fixed c =
    let p = err_from_is_err_and c.from_residual.result c.from_residual.ensures.1 in
    rw (p.1, p.2) (c.in_err-fixed.ensures.0, size_none c.args.body.now c.in_err-fixed.ensures.1)

pub returns : goal.returns
unfolding size_in
returns c = let p = c.in_ok-fixed.ensures in (rw (p.0, p.1), omega (arith, p.2))
