use Rattle.writer.proofs.Puts.{puts_then}
use Rattle.writer.proofs.pen.Pen.put_problem.Goals as goal

pub returns : goal.returns
returns c = puts_then c.put.ensures (puts_then c.put_number.ensures (puts_then c.put-2.ensures (puts_then c.put_number-2.ensures c.put-3.ensures)))
