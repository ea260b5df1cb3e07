use Rattle.std.proofs.Common.{vec_items, refl}
use Rattle.std.proofs.lemmas.List.{take_all}
use Rattle.runs.proofs.Onward.{none_called, call_at, all_called}
use Rattle.runs.proofs.running.run.Goals as goal

pub loop-call-init : goal.loop-call-init
loop-call-init g c =
    rw (c.new-answers.ensures.items, c.new-texts.ensures.items)
    (none_called g.M.Memo.held g.M.Memo.notes g.met.M.Memo.kept g.C.Chooser.picks g.met.C.Chooser.listed c.new-session.result.chooser c.new-session.result refl c.new-session.ensures.led)

pub loop-call-preserved : goal.loop-call-preserved
loop-call-preserved g c =
    call_at g.M.Memo.held g.M.Memo.notes g.met.M.Memo.kept g.C.Chooser.picks g.met.C.Chooser.listed c.new-session.result.chooser c.args.calls.now c.loop-call.call-index c.call-item.result c.loop-call-test.true c.call-item.is
    c.loop-call.session c.carry_out.new.session (vec_items c.loop-call.answers) _ (vec_items c.loop-call.texts) (vec_items c.carry_out.new.texts) c.in_ok-answer.answer
    c.loop-call.invariant c.in_ok-answer.ensures c.in_ok-push.ensures.items

pub returns : goal.returns
returns g c =
    rw (← c.new-session.ensures.chooser)
    (all_called g.M.Memo.held g.M.Memo.notes g.met.M.Memo.kept g.C.Chooser.picks g.met.C.Chooser.listed c.new-session.result.chooser c.args.calls.now c.loop-call.session _
    (rw (take_all c.loop-call.call-index c.args.calls.now c.loop-call-test.false) at c.loop-call.invariant))
