use Rattle.ledger.specs.Ledger.{forget}
use Rattle.histories.specs.Dealings.{deals_forgot}
use Rattle.session.proofs.Cores.{fresh_core}
use Rattle.session.proofs.Dealing.{dealt}
use Rattle.session.proofs.session.Session.forget.Goals as goal

pub returns : goal.returns
returns g c =
    let held = g.M.Memo.held in
    let again = c.restart.ensures in
    let after = c.restart.new.self in
    dealt held g.M.Memo.notes g.met.M.Memo.kept g.C.Chooser.picks g.met.C.Chooser.listed c.args.self.now forget after again.chooser
    (deals_forgot (fresh_core held after.core after.memo again.scope again.table again.memo))
