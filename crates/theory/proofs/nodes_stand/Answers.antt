use Rattle.theory.proofs.Counting.{nodes_listed, crowded_counts}
use Rattle.theory.proofs.nodes_stand.Goals as goal

pub returns : goal.returns
returns c = record { listed = nodes_listed; counted = λ n sets. ((crowded_counts n sets).0, (crowded_counts n sets).1) }
