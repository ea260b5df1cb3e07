use Rattle.writer.proofs.clauses.+count_clauses.Given as goal

abbrev pub decreases-count_clauses : goal.decreases-count_clauses
decreases-count_clauses l = l.set.number
