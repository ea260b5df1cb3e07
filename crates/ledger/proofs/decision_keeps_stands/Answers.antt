use Rattle.ledger.proofs.Keeping.{decision_keeps}
use Rattle.ledger.proofs.decision_keeps_stands.Goals as goal

pub returns : goal.returns
returns g c = decision_keeps g.M.Memo.held g.M.Memo.notes g.met.M.Memo.kept
