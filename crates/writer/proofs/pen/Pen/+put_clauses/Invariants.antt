use Rattle.writer.proofs.pen.Pen.+put_clauses.Given as goal

abbrev pub decreases-put_clauses : goal.decreases-put_clauses
decreases-put_clauses l = l.set.number
