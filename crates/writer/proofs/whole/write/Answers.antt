use Rattle.writer.proofs.Written.{fitting}
use Rattle.writer.proofs.whole.write.Goals as goal

pub returns : goal.returns
returns c = fitting c.put-needed.ensures c.if-needed-buffer.false c.put.ensures
