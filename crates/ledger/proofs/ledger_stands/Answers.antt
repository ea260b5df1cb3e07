use Rattle.ledger.proofs.Entering.{prefix_told, calls_enter}
use Rattle.ledger.proofs.Closed.{formula_stands}
use Rattle.ledger.proofs.ledger_stands.Goals as goal

pub returns : goal.returns
returns c = record { prefix = prefix_told; calls = calls_enter; formula = formula_stands }
