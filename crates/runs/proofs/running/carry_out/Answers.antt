use Rattle.std.proofs.Common.{vec_items}
use Rattle.runs.proofs.Carrying.{loaded_so, decided_so, forgotten_so}
use Rattle.runs.proofs.running.carry_out.Goals as goal

pub returns-in-Load : goal.returns-in-Load
returns-in-Load g c = rw c.in-Load.is (loaded_so g.M.Memo.held g.M.Memo.notes g.C.Chooser.picks c.args.session.now (vec_items c.args.texts.now) c.in-Load.text c.load.result c.load.new.self c.load.ensures)

pub returns-in-Decide : goal.returns-in-Decide
returns-in-Decide g c = rw c.in-Decide.is (decided_so g.M.Memo.held g.M.Memo.notes g.C.Chooser.picks c.args.session.now (vec_items c.args.texts.now) c.in-Decide.allowance c.decide.result c.decide.new.self c.decide.ensures)

pub returns-in-Forget : goal.returns-in-Forget
returns-in-Forget g c = rw c.in-Forget.is (forgotten_so g.M.Memo.held g.M.Memo.notes g.C.Chooser.picks c.args.session.now (vec_items c.args.texts.now) c.forget.new.self c.forget.ensures)
