use Rattle.theory.proofs.Deciding.{decision_right, decision_blank}
use Rattle.theory.proofs.Making.{decision_makes}
use Rattle.theory.proofs.Repeating.{decision_settles, decision_repeats}
use Rattle.theory.proofs.decision_stands.Goals as goal

pub returns : goal.returns
returns g c =
    let held = g.M.Memo.held in
    let notes = g.M.Memo.notes in
    let kept = g.met.M.Memo.kept in
    record { right = decision_right held notes kept; blank = decision_blank held notes kept; makes = decision_makes held notes kept; settles = decision_settles held notes; repeats = decision_repeats held notes }
