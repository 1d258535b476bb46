use Rattle.std.proofs.Common.{◌/◌, sym, arith}
use Rattle.std.proofs.lemmas.Fmt.{length-decimal-le}
use Rattle.itoa.proofs.Decimal.{length_one, length_two, length_pair, length_four}
use Rattle.lines.proofs.number.+places.Goals as goal

pub overflow_add-result : goal.overflow_add-result
overflow_add-result t c =
    let n = c.args.n in
    let few = length-decimal-le 20 (n / 10000) (omega arith) (omega (arith, c.ranges.n.fits)) (omega (arith, c.ranges.n.fits)) in
    record { fits = omega (arith, few, c.places.ensures) }

pub returns-then-n-lt10 : goal.returns-then-n-lt10
returns-then-n-lt10 t c = sym (length_one c.args.n c.if-n-lt10.true)

pub returns-then-n-lt100 : goal.returns-then-n-lt100
returns-then-n-lt100 t c = sym (length_two c.args.n c.if-n-lt10.false c.if-n-lt100.true)

pub returns-then-n-lt1000 : goal.returns-then-n-lt1000
returns-then-n-lt1000 t c =
    let n = c.args.n in
    omega (arith, length_pair n c.if-n-lt100.false (omega (arith, c.ranges.n.fits)), length_one (n / 100) (omega (arith, c.if-n-lt1000.true)))

pub returns-then-n-lt10000 : goal.returns-then-n-lt10000
returns-then-n-lt10000 t c =
    let n = c.args.n in
    omega (arith, length_pair n c.if-n-lt100.false (omega (arith, c.ranges.n.fits)), length_two (n / 100) (omega (arith, c.if-n-lt1000.false)) (omega (arith, c.if-n-lt10000.true)))

pub returns-else-n-lt10000 : goal.returns-else-n-lt10000
returns-else-n-lt10000 t c = omega (arith, length_four c.args.n c.if-n-lt10000.false (omega (arith, c.ranges.n.fits)), c.places.ensures)
