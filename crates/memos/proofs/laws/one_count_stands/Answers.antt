use Rattle.memos.proofs.Lengths.{one_count}
use Rattle.memos.proofs.laws.one_count_stands.Goals as goal

pub returns : goal.returns
returns c = one_count
