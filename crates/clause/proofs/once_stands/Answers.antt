use Rattle.clause.proofs.Sets.{once_stands_lem}
use Rattle.clause.proofs.once_stands.Goals as goal

pub returns : goal.returns
returns c = once_stands_lem
