use Rattle.std.proofs.lemmas.List.{drop_more, drop_all}
use Rattle.writer.proofs.Puts.{left_next, left_last, puts_none}
use Rattle.writer.proofs.pen.Pen.put.Goals as goal

pub loop-byte-preserved : goal.loop-byte-preserved
loop-byte-preserved c = left_next c.loop-byte.invariant c.put_byte.ensures (drop_more _ _ 0 c.loop-byte-test.true)

pub returns : goal.returns
returns c = rw (← c.as_bytes-byte-items.ensures.value) (left_last c.loop-byte.invariant (puts_none _) (drop_all _ _ c.loop-byte-test.false))
