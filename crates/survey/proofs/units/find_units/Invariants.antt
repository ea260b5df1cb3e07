use Rattle.survey.proofs.Chains.{Found}
use Rattle.survey.proofs.units.find_units.Given as goal

abbrev pub invariant-loop-branches : goal.invariant-loop-branches
invariant-loop-branches l = Found l.set l.units.at l.rest

abbrev pub decreases-loop-branches : goal.decreases-loop-branches
decreases-loop-branches l = l.rest.number
