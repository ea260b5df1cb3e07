use Rattle.choosers.proofs.Unbeaten.{busiest_largest}
use Rattle.choosers.proofs.laws.busiest_largest_stands.Goals as goal

pub returns : goal.returns
returns c = busiest_largest
