-- What is done with a core.
use Rattle.std.specs.Prelude.{◌≡◌, ℕ, Bool, List, [], Some, None, Ok, Err, Result}
use Rattle.qbf.specs.declared.Candidate.{Candidate}
use Rattle.qbf.specs.Memo.{Pairs}
use Rattle.qbf.specs.Numbering.{Makes, Stops}
use Rattle.formula.specs.declared.prefix.Binding.{Binding}
use Rattle.formula.specs.Views.{Reading}
use Rattle.sets.specs.Formed.{forming}
use Rattle.table.specs.declared.table.Full.{Full}
use Rattle.reduction.specs.Numbered.{sets_of}
use Rattle.writer.specs.Written.{Written, Short}
use Rattle.ledger.specs.Answers.{DecideAnswer}
use Rattle.ledger.specs.Ledger.{decide, LoadedFormula, formula_of}
use Rattle.ledger.specs.Promises.{text_of}
use Rattle.histories.specs.Standing.{Standing}
use Rattle.histories.specs.Dealings.{Deals}
use Rattle.session.specs.declared.inner.Core.{Core}
use Rattle.session.specs.declared.fault.Fault.{Fault}
use Rattle.session.specs.declared.fault.Fault.TheVariants.{Unread, NoFormula, AllowanceTooLarge, TooShort, TableFull, Undecided}
use Rattle.session.specs.Places.{prefix_in}
use Rattle.session.specs.Views.{formula_in}
use Rattle.session.specs.Answers.{decide_result}

-- The clauses of a formula were stored under its prefix: its sets are made, and it is the loaded formula; or one of them cannot be
-- made, and the loaded formula stays.
abbrev pub Stores : Core → Reading → Core → Result (Unit {0}) Full → Type 0
Stores before f after (Ok u) = Makes (sets_of before.table) (forming [] f.clauses) (sets_of after.table) × (formula_in after.table after.scope ≡ Some (formula_of f))
Stores before f after (Err e) = Stops (sets_of before.table) (forming [] f.clauses) (sets_of after.table) × (formula_in after.table after.scope ≡ formula_in before.table before.scope)

-- a decision within an allowance led from one place to another, with this answer
abbrev pub Decided : {M : Type 0} → (M → Pairs) → (M → ℕ → Bool → M → Type 0) → (List Candidate → ℕ) → Standing M → ℕ → Result (Bool × ℕ) Fault → Standing M → Type 0
Decided held notes pick s allowance r t = (a : DecideAnswer) × (r ≡ decide_result a) × Deals held notes pick s (decide allowance a) t

-- the loaded formula with its prefix, and a fact of its text
abbrev pub OfText : Core → (List ℕ → Type 0) → Type 0
OfText core fact = (p : List Binding) × (f : LoadedFormula) × (prefix_in core.scope ≡ Some p) × (formula_in core.table core.scope ≡ Some f) × fact (text_of p f)

-- a core was written into a buffer, or not
abbrev pub Writes : Core → List ℕ → List ℕ → Result ℕ Fault → Type 0
Writes core before after (Ok n) = OfText core (λ text. Written text before after n)
Writes core before after (Err (TooShort n)) = OfText core (λ text. Short text before after n)
Writes core before after (Err NoFormula) = (formula_in core.table core.scope ≡ None) × (after ≡ before)
Writes core before after (Err (Unread e)) = ⊥
Writes core before after (Err AllowanceTooLarge) = ⊥
Writes core before after (Err TableFull) = ⊥
Writes core before after (Err (Undecided u)) = ⊥
