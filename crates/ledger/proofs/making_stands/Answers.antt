use Rattle.ledger.proofs.Keeping.{making_weighed, making_crowded}
use Rattle.ledger.proofs.making_stands.Goals as goal

pub returns : goal.returns
returns c = record { weighed = making_weighed; crowded = making_crowded }
