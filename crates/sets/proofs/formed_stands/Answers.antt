use Rattle.sets.proofs.Formed.{formed_stands_lem}
use Rattle.sets.proofs.formed_stands.Goals as goal

pub returns : goal.returns
returns c = formed_stands_lem
