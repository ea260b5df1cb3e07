use Rattle.std.proofs.Common.{refl}
use Rattle.ledger.specs.Answers.{allowance_too_large}
use Rattle.ledger.specs.Ledger.{decide}
use Rattle.histories.specs.Dealings.{deals_too_large}
use Rattle.session.proofs.Dealing.{dealt}
use Rattle.session.proofs.session.Session.decide.Goals as goal

pub returns-then-allowance-gt-MOST_ALLOWED : goal.returns-then-allowance-gt-MOST_ALLOWED
returns-then-allowance-gt-MOST_ALLOWED g c =
    let session = c.args.self.now in
    record {
      answer = allowance_too_large;
      told = refl;
      dealt = dealt g.M.Memo.held g.M.Memo.notes g.met.M.Memo.kept g.C.Chooser.picks g.met.C.Chooser.listed session (decide c.args.allowance allowance_too_large) session refl (deals_too_large c.if-allowance-gt-MOST_ALLOWED.true);
    }

pub returns : goal.returns
returns g c =
    let decided = c.decide-answer.ensures in
    record {
      answer = decided.0;
      told = decided.1;
      dealt = dealt g.M.Memo.held g.M.Memo.notes g.met.M.Memo.kept g.C.Chooser.picks g.met.C.Chooser.listed c.args.self.now (decide c.args.allowance decided.0) _ refl decided.2;
    }
