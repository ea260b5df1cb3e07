use Rattle.survey.proofs.counts.+tally.Given as goal

abbrev pub decreases-tally : goal.decreases-tally
decreases-tally l = l.set.number
