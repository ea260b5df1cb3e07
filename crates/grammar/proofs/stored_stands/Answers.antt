use Rattle.grammar.proofs.Storing.{stored_stands_lem}
use Rattle.grammar.proofs.stored_stands.Goals as goal

pub returns : goal.returns
returns c = stored_stands_lem
