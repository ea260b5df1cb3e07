use Rattle.std.proofs.Common.{drop}
use Rattle.rendering.specs.Render.{clause_line}
use Rattle.writer.proofs.Puts.{Left}
use Rattle.writer.proofs.pen.Pen.put_clause.Given as goal

abbrev pub invariant-loop-code : goal.invariant-loop-code
invariant-loop-code l = Left l.initial.self (clause_line l.prefix l.codes) (clause_line l.prefix (drop l.code-index l.codes)) l.self
