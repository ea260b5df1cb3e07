-- What the ledger follows from.
use Rattle.std.specs.Prelude.{◌≡◌, ℕ, true, ◌↔◌, List, Some, Option}
use Rattle.qbf.specs.declared.Candidate.{Candidate}
use Rattle.qbf.specs.Clauses.{Canonical}
use Rattle.qbf.specs.Reduce.{Within}
use Rattle.formula.specs.declared.prefix.Binding.{Binding}
use Rattle.ledger.specs.Answers.{LoadAnswer, DecideAnswer, WriteAnswer}
use Rattle.ledger.specs.Ledger.{Dealing, load, decide, write, forget, LoadedFormula, Ledger, has_prefix, quantifiers, is_full, enter, ledger}

-- a prefix is the loaded one exactly if it is equal to it: in variables, order and quantifiers
abbrev pub PrefixTold : Type 0
PrefixTold = (o : Option (List Binding)) (p : List Binding) → (has_prefix o p ≡ true) ↔ (o ≡ Some p)

-- two dealings are the same call, and if it is a load, both found the table full or neither did
pub data SameCall : Dealing → Dealing → Type 0 where
  same_load : {text : List ℕ} {a b : LoadAnswer} → is_full a ≡ is_full b → SameCall (load text a) (load text b)
  same_decide : {allowance : ℕ} {a b : DecideAnswer} → SameCall (decide allowance a) (decide allowance b)
  same_write : {space : ℕ} {a b : WriteAnswer} → SameCall (write space a) (write space b)
  same_forget : SameCall forget forget

-- the ledger follows from no more of a dealing than that
abbrev pub CallsEnter : Type 0
CallsEnter = (pick : List Candidate → ℕ) (l : Ledger) (d e : Dealing) → SameCall d e → enter pick l d ≡ enter pick l e

-- a formula stands under a prefix: one is loaded, it binds every literal's variable, and the clauses are in the one form of a set
pub record StandsUnder (loaded : Option (List Binding)) (f : LoadedFormula) : Type 0 where
  pub prefix : List Binding
  pub there : loaded ≡ Some prefix
  pub closed : Within (quantifiers loaded) f.clauses
  pub canonical : Canonical f.clauses

-- the loaded formula does, after every history
abbrev pub FormulaStands : Type 0
FormulaStands =
    (pick : List Candidate → ℕ) (history : List Dealing) (f : LoadedFormula) →
    (ledger pick history).formula ≡ Some f → StandsUnder (ledger pick history).prefix f
