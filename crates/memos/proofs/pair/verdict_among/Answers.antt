use Rattle.std.proofs.Common.{rules}
use Rattle.memos.proofs.Verdicts.{verdict_found, verdict_missing}
use Rattle.memos.proofs.pair.verdict_among.Goals as goal

pub returns : goal.returns
returns c = search (rules, verdict_found, verdict_missing)
