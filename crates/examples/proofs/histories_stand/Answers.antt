use Rattle.examples.proofs.Computed.{histories}
use Rattle.examples.proofs.histories_stand.Goals as goal

pub returns : goal.returns
returns c = histories
