use Rattle.std.proofs.Common.{length}
use Rattle.rendering.specs.Render.{prefix_lines}
use Rattle.writer.proofs.Puts.{Left}
use Rattle.writer.proofs.pen.Pen.put_prefix.Given as goal

abbrev pub invariant-loop-first : goal.invariant-loop-first
invariant-loop-first l = Left l.initial.self (prefix_lines l.prefix) (prefix_lines l.rest) l.self

abbrev pub decreases-loop-first : goal.decreases-loop-first
decreases-loop-first l = length l.rest
