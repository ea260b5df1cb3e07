use Rattle.std.proofs.Common.{◌≡◌, Bool, true, false, cond, refl, ◌∙◌}
use mir.Val.{bool_byte}
use Rattle.zulfringa.proofs.report.ReportDisplay.fmt.Goals as goal

bit : (b : Bool) → bool_byte b ≡ cond b 1 0
bit true = refl
bit false = refl

pub returns-in-Ok-clause-writes : goal.returns-in-Ok-clause-writes
returns-in-Ok-clause-writes g c =
    let e = c.from-verdict.ensures ∙ bit c.in-Ok.checked.verdict in
    rw c.in-Ok.is (rw e at c.write.ensures.writes)
