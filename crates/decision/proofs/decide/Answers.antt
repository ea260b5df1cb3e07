use Rattle.std.proofs.Common.{arith, rules}
use Rattle.theory.proofs.Deciding.{judged, unaided}
use Rattle.reduction.specs.Numbered.{quantifiers_of}
use Rattle.decision.proofs.Grows.{stay}
use Rattle.decision.proofs.Standing.{kept_by_staying}
use Rattle.decision.proofs.decide.Goals as goal

pub returns-in-Ok-clause-decides : goal.returns-in-Ok-clause-decides
returns-in-Ok-clause-decides g c = search rules

pub returns-in-Ok-clause-keeps : goal.returns-in-Ok-clause-keeps
returns-in-Ok-clause-keeps g c = kept_by_staying _ _ (stay (returns-in-Ok-clause-decides g c))

pub returns-in-Ok-clause-right : goal.returns-in-Ok-clause-right
returns-in-Ok-clause-right g c =
    judged g.M.Memo.held g.M.Memo.notes g.met.M.Memo.kept (g.C.Chooser.picks c.args.chooser.now) (g.met.C.Chooser.listed c.args.chooser.now) (quantifiers_of c.args.prefix.now) c.args.allowance
    (returns-in-Ok-clause-decides g c)

pub returns-in-Ok-clause-unaided : goal.returns-in-Ok-clause-unaided
returns-in-Ok-clause-unaided g c = λ empty b ends.
    let all = unaided g.M.Memo.held g.M.Memo.notes g.met.M.Memo.kept (g.C.Chooser.picks c.args.chooser.now) (g.met.C.Chooser.listed c.args.chooser.now) (quantifiers_of c.args.prefix.now) c.args.allowance empty
    (returns-in-Ok-clause-decides g c) b ends in
    omega (arith, all)

pub returns-in-Err-clause-decides : goal.returns-in-Err-clause-decides
returns-in-Err-clause-decides g c = search rules

pub returns-in-Err-clause-keeps : goal.returns-in-Err-clause-keeps
returns-in-Err-clause-keeps g c = kept_by_staying _ _ (stay (returns-in-Err-clause-decides g c))

pub returns-in-Err-clause-right : goal.returns-in-Err-clause-right
returns-in-Err-clause-right g c =
    judged g.M.Memo.held g.M.Memo.notes g.met.M.Memo.kept (g.C.Chooser.picks c.args.chooser.now) (g.met.C.Chooser.listed c.args.chooser.now) (quantifiers_of c.args.prefix.now) c.args.allowance
    (returns-in-Err-clause-decides g c)
