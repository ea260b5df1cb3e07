use Rattle.std.proofs.lemmas.Bool.Decides.{not_from_Decides}
use Rattle.survey.proofs.Chains.{found_none, found_past, found_here, found_end}
use Rattle.survey.proofs.units.find_units.Goals as goal
use Rattle.survey.proofs.units.find_units.Goals.{then-holds_empty, else-holds_empty}

pub loop-branches-init : goal.loop-branches-init
loop-branches-init c = rw c.new-units.ensures (found_none c.args.set)

pub loop-branches-preserved : goal.loop-branches-preserved
loop-branches-preserved c = elim c.if-holds_empty.branch [
  | then-holds_empty w ↦ rw (w.units-is, w.set.ensures) (found_here _ _ _ _ c.in-Some.ensures c.loop-branches.invariant c.loop-branches.units.long (c.holds_empty.ensures.0 w.if-holds_empty.true))
  | else-holds_empty w ↦ rw w.units-is (found_past _ _ _ _ c.in-Some.ensures c.loop-branches.invariant (not_from_Decides c.holds_empty.result c.holds_empty.ensures w.if-holds_empty.false))
]

pub returns : goal.returns
returns c = found_end _ _ _ c.in_default.ensures c.loop-branches.invariant
