use Rattle.ledger.proofs.Keeping.{load_keeps}
use Rattle.ledger.proofs.load_keeps_stands.Goals as goal

pub returns : goal.returns
returns c = load_keeps
