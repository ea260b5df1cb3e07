use Rattle.std.proofs.Common.{length, refl}
use Rattle.ledger.specs.Ledger.{write}
use Rattle.session.proofs.Dealing.{dealt, core_writes}
use Rattle.session.proofs.session.Session.write.Goals as goal

pub returns : goal.returns
returns g c =
    let session = c.args.self.now in
    let written = core_writes g.M.Memo.held g.M.Memo.notes (g.C.Chooser.picks session.chooser) session.core session.memo c.args.buffer.now c.write.new.buffer c.write.result c.write.ensures in
    record {
      dealt = record {
        answer = written.answer;
        told = written.told;
        dealt = dealt g.M.Memo.held g.M.Memo.notes g.met.M.Memo.kept g.C.Chooser.picks g.met.C.Chooser.listed session (write (length c.args.buffer.now) written.answer) session refl written.deals;
      };
      buffer = written.buffer;
    }
