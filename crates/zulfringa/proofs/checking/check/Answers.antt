use Rattle.std.proofs.lemmas.Result.{err_from_is_err_and}
use Rattle.zulfringa.proofs.Meaning.{sessions_check}
use Rattle.zulfringa.proofs.Sessions.{load_refused, decision_refused, decision_found}
use Rattle.zulfringa.proofs.checking.check.Goals as goal

pub returns-in_err-loaded : goal.returns-in_err-loaded
returns-in_err-loaded c =
    let p = err_from_is_err_and c.from_residual.result c.from_residual.ensures.1 in
    let by = load_refused c.args.text.now c.new-session.result c.new-session.ensures.led c.load.new.self c.in_err-loaded.field-0.0 c.in_err-loaded.ensures in
    rw (p.1, p.2) (record { session = by; means = sessions_check _ _ by })

pub returns-in_err-verdict : goal.returns-in_err-verdict
returns-in_err-verdict c =
    let p = err_from_is_err_and c.from_residual-in_err-verdict.result c.from_residual-in_err-verdict.ensures.1 in
    let by = decision_refused c.args.text.now c.new-session.result c.new-session.ensures.led c.load.new.self c.in_ok-loaded.loaded c.in_ok-loaded.ensures c.decide.new.self c.in_err-verdict.field-0.0 c.in_err-verdict.ensures in
    rw (p.1, p.2) (record { session = by; means = sessions_check _ _ by })

pub returns : goal.returns
returns c =
    let by = decision_found c.args.text.now c.new-session.result c.new-session.ensures.led c.load.new.self c.in_ok-loaded.loaded c.in_ok-loaded.ensures c.decide.new.self c.in_ok-verdict.verdict c.in_ok-verdict.splits c.in_ok-verdict.ensures in
    record { session = by; means = sessions_check _ _ by }
