use Rattle.grammar.proofs.Whole.{reading_stands_lem}
use Rattle.grammar.proofs.reading_stands.Goals as goal

pub returns : goal.returns
returns c = reading_stands_lem
