use Rattle.choosers.proofs.Unbeaten.{first_lowest}
use Rattle.choosers.proofs.laws.first_lowest_stands.Goals as goal

pub returns : goal.returns
returns c = first_lowest
