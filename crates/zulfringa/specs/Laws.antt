-- What the answers of a new session mean.
use Rattle.std.specs.Prelude.{ℕ, List, Result}
use Rattle.session.specs.declared.fault.Fault.{Fault}
use Rattle.zulfringa.specs.declared.checking.Checked.{Checked}
use Rattle.zulfringa.specs.Checks.{Checks}
use Rattle.zulfringa.specs.BySession.{BySession}

-- for every text, what a new session comes to is what the answer has to mean
abbrev pub SessionsCheck : Type 0
SessionsCheck = (text : List ℕ) (r : Result Checked Fault) → BySession text r → Checks text r
