use Rattle.std.proofs.Common.{drop}
use Rattle.writer.proofs.Puts.{Left}
use Rattle.writer.proofs.pen.Pen.put.Given as goal

abbrev pub invariant-loop-byte : goal.invariant-loop-byte
invariant-loop-byte l = Left l.initial.self l.byte-items (drop l.byte-index l.byte-items) l.self
