use Rattle.std.proofs.Common.{take, vec_items}
use Rattle.runs.proofs.Onward.{SoFar}
use Rattle.runs.proofs.running.run.Given as goal

abbrev pub invariant-loop-call : goal.invariant-loop-call
invariant-loop-call g l = SoFar g.M.Memo.held g.M.Memo.notes g.C.Chooser.picks l.initial.session.chooser (take l.call-index l.calls) l.session (vec_items l.answers) (vec_items l.texts)
