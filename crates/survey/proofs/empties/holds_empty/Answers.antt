use Rattle.survey.proofs.Chains.{alike_without, alike_end}
use Rattle.survey.proofs.empties.holds_empty.Goals as goal

pub loop-branches-preserved : goal.loop-branches-preserved
loop-branches-preserved c = alike_without _ _ _ c.in-Some.ensures c.loop-branches.invariant

pub returns : goal.returns
returns c = rw c.number.ensures (alike_end _ c.loop-branches.rest c.in_default.ensures c.loop-branches.invariant)
