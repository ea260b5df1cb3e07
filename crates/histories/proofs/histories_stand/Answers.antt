use Rattle.histories.proofs.Leading.{histories_stand_lem}
use Rattle.histories.proofs.histories_stand.Goals as goal

pub returns : goal.returns
returns g c = histories_stand_lem g.M.Memo.held g.M.Memo.notes g.met.M.Memo.kept
