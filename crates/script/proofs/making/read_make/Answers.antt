use Rattle.script.proofs.Spelled.{no_make}
use Rattle.script.proofs.making.read_make.Goals as goal

pub returns-in_err-make : goal.returns-in_err-make
returns-in_err-make c =
    rw c.from_residual-in_err-make.ensures (no_make c.args.script.now c.in_ok-line.line.now c.in_ok-line.rest.now c.in_ok-line.ensures.0 c.in_ok-line.ensures.1 c.in_err-make.ensures)
