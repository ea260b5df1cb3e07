use Rattle.theory.proofs.Lines.{lines_fit, lines_told, occurs_counted}
use Rattle.theory.proofs.lines_stand.Goals as goal

pub returns : goal.returns
returns c = record { fit = lines_fit; told = lines_told; counted = occurs_counted }
