use Rattle.qbf.specs.Reduce.{size}
use Rattle.table.specs.Tables.{clauses}
use Rattle.reduction.specs.Numbered.{quantifiers_of}
use Rattle.reduction.proofs.Runs.{Leads}
use Rattle.reduction.proofs.reducing.reduce.Given as goal

abbrev pub invariant-loop-verdict : goal.invariant-loop-verdict
invariant-loop-verdict l = Leads (quantifiers_of l.prefix) l.initial.table l.number l.table l.rest

abbrev pub decreases-loop-verdict : goal.decreases-loop-verdict
decreases-loop-verdict l = size (clauses l.table l.rest)
