-- The one number that the editor receives.
use Rattle.std.specs.Prelude.{◌≡◌, ℕ, ◌+◌, true, false, cond, List, Ok, Err, Result}
use Rattle.session.specs.declared.fault.Fault.{Fault}
use Rattle.session.specs.Told.{fault_told}
use Rattle.zulfringa.specs.declared.checking.Checked.{Checked}
use Rattle.zulfringa.specs.Text.{text_value}
use Rattle.zulfringa.specs.Checks.{OfFormula, Checks}
use Rattle.zulfringa.specs.BySession.{BySession}

-- 0 for false, 1 for true, or 10 more than the refusal's number
abbrev pub stamp : Result Checked Fault → ℕ
stamp (Ok c) = cond c.verdict 1 0
stamp (Err e) = 10 + (fault_told e).number

-- the number is that of the answer to the text
pub record Stamped (text : List ℕ) (r : ℕ) : Type 0 where
  pub answer : Result Checked Fault
  pub session : BySession text answer
  pub means : Checks text answer
  pub number : r ≡ stamp answer
  -- in short: 1 and 0 are given only to texts of the format, by the value of their formula
  pub if_true : r ≡ 1 → OfFormula text (λ f. text_value f ≡ true)
  pub if_false : r ≡ 0 → OfFormula text (λ f. text_value f ≡ false)
