use native.Mathlib.Omega.{arith}
use borrow.Author.Tests.{eq-eqb, ne_eqb}
use Rattle.std.proofs.lemmas.Result.{err_from_is_err_and}
use Rattle.runfile.specs.Body.{body_code}
use Rattle.runfile.proofs.bodies.check_body.Goals as goal

-- `runfile::bodies::check_body` meets its contract, test by test.
pub returns-then-size-eq0 : goal.returns-then-size-eq0
unfolding body_code
returns-then-size-eq0 c = rw (eq-eqb _ _ c.if-size-eq0.true)

pub returns-in_err-due : goal.returns-in_err-due
unfolding body_code
returns-in_err-due c =
    let p = err_from_is_err_and c.from_residual.result c.from_residual.ensures.1 in
    rw (p.1, p.2, c.in_err-due.ensures.0, ne_eqb _ _ c.if-size-eq0.false, ← c.rest.ensures, c.in_err-due.ensures.1)

pub returns-then-size-due : goal.returns-then-size-due
unfolding body_code
returns-then-size-due c = rw (ne_eqb _ _ c.if-size-eq0.false, ← c.rest.ensures, ← c.in_ok-due.ensures.0, ne_eqb c.in_ok-due.due 0 (λ e. omega (arith, c.in_ok-due.ensures.1)), eq-eqb _ _ c.if-size-due.true)

pub returns-else-size-due : goal.returns-else-size-due
unfolding body_code
returns-else-size-due c = rw (ne_eqb _ _ c.if-size-eq0.false, ← c.rest.ensures, ← c.in_ok-due.ensures.0, ne_eqb c.in_ok-due.due 0 (λ e. omega (arith, c.in_ok-due.ensures.1)), ne_eqb _ _ c.if-size-due.false)
