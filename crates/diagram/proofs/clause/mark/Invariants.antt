use Rattle.std.proofs.Common.{take}
use Rattle.diagram.proofs.Marks.{Marked, Spanned}
use Rattle.diagram.proofs.clause.mark.Given as goal

abbrev pub invariant-loop-code : goal.invariant-loop-code
invariant-loop-code l = Marked l.held.at (take l.code-index l.codes) × Spanned l.low l.end (take l.code-index l.codes)
