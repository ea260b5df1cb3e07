use Rattle.diagram.proofs.literal.+make_part.Given as goal

abbrev pub decreases-make_part : goal.decreases-make_part
decreases-make_part l = l.number
