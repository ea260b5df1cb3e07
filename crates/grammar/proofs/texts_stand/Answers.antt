use Rattle.grammar.proofs.Whole.{texts_stand_lem}
use Rattle.grammar.proofs.texts_stand.Goals as goal

pub returns : goal.returns
returns c = texts_stand_lem
