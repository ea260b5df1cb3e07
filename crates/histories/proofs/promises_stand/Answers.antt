use Rattle.histories.proofs.Leading.{promises_kept, dealings_honest}
use Rattle.histories.proofs.promises_stand.Goals as goal

pub returns : goal.returns
returns g c =
    let held = g.M.Memo.held in
    let notes = g.M.Memo.notes in
    let kept = g.met.M.Memo.kept in
    record { kept = promises_kept held notes kept; one_more = dealings_honest held notes kept }
