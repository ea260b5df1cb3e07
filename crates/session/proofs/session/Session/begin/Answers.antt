use Rattle.std.proofs.Common.{sym, refl, ◌∙◌, true≢false}
use Rattle.histories.specs.Standing.{same_prefix}
use Rattle.session.specs.Views.{standing}
use Rattle.session.proofs.Dealing.{begins_other}
use Rattle.session.proofs.session.Session.begin.Goals as goal

pub returns-then-not-has_prefix : goal.returns-then-not-has_prefix
returns-then-not-has_prefix g c =
    let again = c.restart.ensures in
    let after = c.restart.new.self in
    record {
      begins = begins_other g.M.Memo.held (standing c.args.self.now) after.core after.memo c.args.prefix.now again.scope again.table again.memo
          (λ e. true≢false (sym (c.has_prefix.ensures.1 e) ∙ c.if-not-has_prefix.true));
      chooser = again.chooser;
    }

pub returns-else-not-has_prefix : goal.returns-else-not-has_prefix
returns-else-not-has_prefix g c = record { begins = same_prefix (c.has_prefix.ensures.0 c.if-not-has_prefix.false); chooser = refl }
