-- That a refusal is told rightly.
use Rattle.std.specs.Prelude.{◌≡◌, Some, None, Ok, Err, Option, Result}
use Rattle.ledger.specs.Answers.{LoadAnswer, DecideAnswer, WriteAnswer, Told, load_told, decide_told, write_told}
use Rattle.session.specs.declared.fault.Fault.{Fault}
use Rattle.session.specs.Told.{fault_told}
use Rattle.session.specs.Answers.{load_result, decide_result, write_result}

-- how a result is told, if it is a refusal
abbrev pub told : {A : Type 0} → Result A Fault → Option Told
told (Ok a) = None
told (Err f) = Some (fault_told f)

-- each answer is told as the list of refusals has it
pub record FaultsTold : Type 0 where
  pub loads : (a : LoadAnswer) → told (load_result a) ≡ load_told a
  pub decisions : (a : DecideAnswer) → told (decide_result a) ≡ decide_told a
  pub writings : (a : WriteAnswer) → told (write_result a) ≡ write_told a
