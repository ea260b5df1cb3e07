use Rattle.std.proofs.Common.{arith}
use Rattle.script.proofs.Spelled.{no_load, no_decide, no_write}
use Rattle.script.proofs.calling.on_line.Goals as goal

pub returns-in_err-text : goal.returns-in_err-text
returns-in_err-text c = let a = c.in_ok-number.ensures in rw (c.from_residual-in_err-text.ensures, c.in-Some.ensures) (no_load c.in-Some.word.now c.args.follows.now c.in_ok-number.field-0 a.0 a.1 c.in_err-text.ensures.cases)

pub returns-in_err-allowance : goal.returns-in_err-allowance
returns-in_err-allowance c =
    let a = c.in_ok-number-2.ensures in
    rw (c.from_residual-in_err-allowance.ensures, c.in-Some-after.ensures) (no_decide c.in-Some-after.word.now c.args.follows.now c.in_ok-number-2.field-0 a.0 a.1 (grind (arith, c.try_from.ensures, c.ok.ensures.value, c.in_err-allowance.was)))

pub returns-in_err-space : goal.returns-in_err-space
returns-in_err-space c =
    let a = c.in_ok-number-3.ensures in
    rw (c.from_residual-in_err-space.ensures, c.in-Some-after-2.ensures) (no_write c.in-Some-after-2.word.now c.args.follows.now c.in_ok-number-3.field-0 a.0 a.1 (grind (arith, c.try_from-in-Some-after-2.ensures, c.ok-in-Some-after-2.ensures.value, c.in_err-space.was)))
