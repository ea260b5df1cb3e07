use Rattle.std.proofs.Common.{arith}
use Rattle.words.proofs.Digits.{value_so_far}
use Rattle.words.proofs.numbers.value_of.Goals as goal

pub returns-in_err-checked_mul : goal.returns-in_err-checked_mul
returns-in_err-checked_mul c =
    let least = value_so_far c.loop-b.n c.args.digits.now c.loop-b.b-index _ c.loop-b-test.true c.loop-b.invariant.0 in
    rw c.from_residual.ensures (omega (arith, c.in_err-checked_mul.ensures))

pub returns-in_err-n : goal.returns-in_err-n
returns-in_err-n c =
    let least = value_so_far c.loop-b.n c.args.digits.now c.loop-b.b-index _ c.loop-b-test.true c.loop-b.invariant.0 in
    rw c.from_residual-in_err-n.ensures (omega (arith, c.in_ok-checked_mul.ensures, c.from.ensures, c.in_err-n.ensures))
