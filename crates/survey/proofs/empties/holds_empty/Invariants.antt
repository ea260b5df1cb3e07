use Rattle.survey.proofs.Chains.{Alike}
use Rattle.survey.proofs.empties.holds_empty.Given as goal

abbrev pub invariant-loop-branches : goal.invariant-loop-branches
invariant-loop-branches l = Alike l.set l.rest

abbrev pub decreases-loop-branches : goal.decreases-loop-branches
decreases-loop-branches l = l.rest.number
