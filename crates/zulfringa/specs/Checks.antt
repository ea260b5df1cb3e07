-- What the answer to a text means, in the subject's terms.
use Rattle.std.specs.Prelude.{◌≡◌, ℕ, ◌<◌, ◌≤◌, List, Ok, Err, Result}
use Rattle.qbf.specs.Nodes.{Crowded}
use Rattle.qbf.specs.Numbering.{capacity}
use Rattle.qbf.specs.Decision.{most_open}
use Rattle.formula.specs.Views.{Reading}
use Rattle.grammar.specs.Grammar.{Format}
use Rattle.grammar.specs.Refusals.{Refused}
use Rattle.decision.specs.declared.unfinished.Halt.{Halt}
use Rattle.decision.specs.declared.unfinished.Halt.TheVariants.{Full, Spent, TooDeep}
use Rattle.ledger.specs.Ledger.{most_allowed}
use Rattle.session.specs.declared.fault.Fault.{Fault}
use Rattle.session.specs.declared.fault.Fault.TheVariants.{Unread, NoFormula, AllowanceTooLarge, TooShort, TableFull, Undecided}
use Rattle.zulfringa.specs.declared.checking.Checked.{Checked}
use Rattle.zulfringa.specs.Text.{text_value, text_walk, loading_sets, all_sets}

-- a verdict on a text: the text has the format with this formula, and the verdict is its value
pub record VerdictOn (text : List ℕ) (c : Checked) : Type 0 where
  pub formula : Reading
  pub format : Format text formula
  pub variables : c.variables ≡ formula.variables
  pub declared : c.declared ≡ formula.declared
  pub right : c.verdict ≡ text_value formula
  pub few : c.splits ≤ (text_walk formula).splits

-- why a formula is not decided, after so many splits
abbrev pub Halted : Reading → Halt → ℕ → Type 0
Halted f Full n = Crowded capacity (all_sets f) × (n ≤ (text_walk f).splits)
Halted f Spent n = (n ≡ most_allowed) × (most_allowed < (text_walk f).splits)
Halted f TooDeep n = (most_open < (text_walk f).depth) × (n ≤ (text_walk f).splits)

-- a text that has the format, and a fact of its formula
abbrev pub OfFormula : List ℕ → (Reading → Type 0) → Type 0
OfFormula text fact = (f : Reading) × Format text f × fact f

-- The answer to a text is its formula's value; or why there is none: the rules of refusal refuse the text; the sets that loading
-- it makes, or those and the sets of the whole bare walk, have more nodes together than a table holds; or the bare walk makes more
-- splits than are allowed, or has too many open. Nothing else is ever answered.
abbrev pub Checks : List ℕ → Result Checked Fault → Type 0
Checks text (Ok c) = VerdictOn text c
Checks text (Err (Unread e)) = Refused text e.rule e.at
Checks text (Err TableFull) = OfFormula text (λ f. Crowded capacity (loading_sets f))
Checks text (Err (Undecided u)) = OfFormula text (λ f. Halted f u.halt u.splits)
Checks text (Err NoFormula) = ⊥
Checks text (Err AllowanceTooLarge) = ⊥
Checks text (Err (TooShort n)) = ⊥
