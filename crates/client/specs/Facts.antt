-- Plain facts of a verdict.
use Rattle.std.specs.Prelude.{◌≡◌, ℕ, Bool, List, Ok, Result}
use Rattle.qbf.specs.Value.{value}
use Rattle.formula.specs.Views.{Reading}
use Rattle.grammar.specs.Grammar.{Format}
use Rattle.reduction.specs.Numbered.{quantified}
use Rattle.session.specs.declared.fault.Fault.{Fault}

-- the text has the format, and this is the value of its formula by full expansion
abbrev pub ValueOf : List ℕ → Bool → Type 0
ValueOf text b = (f : Reading) × Format text f × (b ≡ value (quantified f.prefix) 0 f.clauses)

-- a verdict is given again, without a split
abbrev pub Again : Result (Bool × ℕ) Fault → Result (Bool × ℕ) Fault → Type 0
Again first second = (b : Bool) (n : ℕ) → first ≡ Ok (b, n) → second ≡ Ok (b, 0)
