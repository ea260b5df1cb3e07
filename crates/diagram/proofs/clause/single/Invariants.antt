use Rattle.sets.specs.Ordered.{clause_of}
use Rattle.diagram.proofs.Chains.{Chained}
use Rattle.diagram.proofs.clause.single.Given as goal

abbrev pub invariant-loop-code : goal.invariant-loop-code
invariant-loop-code l = Chained l.initial.table (clause_of l.codes) l.code l.table l.clause
