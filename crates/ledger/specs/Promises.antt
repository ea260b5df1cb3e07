-- What a session promises of each answer, by the ledger of the dealings before it.
use Rattle.std.specs.Prelude.{◌≡◌, ℕ, ◌<◌, ◌≤◌, Bool, List, [], ◌∷◌, length, Some, None, Ok, Err, Result}
use Rattle.qbf.specs.declared.Candidate.{Candidate}
use Rattle.qbf.specs.Nodes.{Crowded}
use Rattle.qbf.specs.Value.{value}
use Rattle.qbf.specs.Walk.{Walked, bare}
use Rattle.qbf.specs.Numbering.{capacity}
use Rattle.qbf.specs.Decision.{full, spent, too_deep, most_open}
use Rattle.formula.specs.declared.prefix.Binding.{Binding}
use Rattle.formula.specs.Views.{Reading}
use Rattle.grammar.specs.declared.fault.ReadFault.{ReadFault}
use Rattle.grammar.specs.Steps.{read_all}
use Rattle.rendering.specs.Render.{render}
use Rattle.ledger.specs.Answers.{LoadAnswer, loaded, unread, load_full, DecideAnswer, found, undecided, nothing_to_decide, allowance_too_large, WriteAnswer, written, nothing_to_write, too_short}
use Rattle.ledger.specs.Ledger.{Dealing, load, decide, write, forget, LoadedFormula, Ledger, quantifiers, most_allowed, ledger}

-- the value by full expansion, and the bare walk, of a formula under the loaded prefix
abbrev pub value_of : Ledger → LoadedFormula → Bool
value_of l f = value (quantifiers l.prefix) 0 f.clauses

abbrev pub walk_of : (List Candidate → ℕ) → Ledger → LoadedFormula → Walked
walk_of pick l f = bare pick (quantifiers l.prefix) f.clauses

-- a decision was carried out: this formula is loaded, and the allowance is not too large
pub record CarriedOut (l : Ledger) (allowance : ℕ) (f : LoadedFormula) : Type 0 where
  pub formula : l.formula ≡ Some f
  pub allowed : allowance ≤ most_allowed

-- the splits of an answer are at most those of the bare walk, and never more than the allowance
pub record FewSplits (walk : Walked) (allowance splits : ℕ) : Type 0 where
  pub walked : splits ≤ walk.splits
  pub allowed : splits ≤ allowance

-- Of a decision, by the ledger before it and the sets weighed with it; `never_holds` says that the memo never holds a pair.
pub data DecisionPromised (pick : List Candidate → ℕ) (never_holds : Type 0) (l : Ledger) (weighed : List (List (List ℕ))) (allowance : ℕ) : DecideAnswer → Type 0 where
  -- a verdict is the value by full expansion; with a memo that never holds a pair it has exactly the splits of the bare walk
  promised_verdict : {b : Bool} {n : ℕ} (f : LoadedFormula) → CarriedOut l allowance f →
      b ≡ value_of l f → FewSplits (walk_of pick l f) allowance n → (never_holds → n ≡ (walk_of pick l f).splits) →
      DecisionPromised pick never_holds l weighed allowance (found b n)
  -- the table is full only where the weighed sets, those of this decision included, have more nodes together than it holds
  promised_full : {n : ℕ} (f : LoadedFormula) → CarriedOut l allowance f →
      FewSplits (walk_of pick l f) allowance n → Crowded capacity weighed →
      DecisionPromised pick never_holds l weighed allowance (undecided full n)
  -- the allowance is spent only when as many splits are made, and where the bare walk makes more
  promised_spent : {n : ℕ} (f : LoadedFormula) → CarriedOut l allowance f →
      n ≡ allowance → allowance < (walk_of pick l f).splits →
      DecisionPromised pick never_holds l weighed allowance (undecided spent n)
  -- too many splits are open only where the bare walk has as many open
  promised_deep : {n : ℕ} (f : LoadedFormula) → CarriedOut l allowance f →
      FewSplits (walk_of pick l f) allowance n → most_open < (walk_of pick l f).depth →
      DecisionPromised pick never_holds l weighed allowance (undecided too_deep n)
  -- no formula is loaded; the allowance was looked at before that
  promised_nothing : l.formula ≡ None → allowance ≤ most_allowed → DecisionPromised pick never_holds l weighed allowance nothing_to_decide
  -- the allowance is above the largest
  promised_too_large : most_allowed < allowance → DecisionPromised pick never_holds l weighed allowance allowance_too_large

-- Of a load, by what the reader makes of its text and the sets weighed with it: the answer is V and C of the problem line, or the
-- reader's fault whole; the table is full only where the weighed sets, those of this load included, have more nodes together
-- than it holds.
pub data LoadPromised (weighed : List (List (List ℕ))) (reading : Result Reading ReadFault) : LoadAnswer → Type 0 where
  promised_loaded : (r : Reading) → reading ≡ Ok r → LoadPromised weighed reading (loaded r.variables r.declared)
  promised_unread : (f : ReadFault) → reading ≡ Err f → LoadPromised weighed reading (unread f)
  promised_load_full : (r : Reading) → reading ≡ Ok r → Crowded capacity weighed → LoadPromised weighed reading load_full

-- the text of a formula with a prefix
abbrev pub text_of : List Binding → LoadedFormula → List ℕ
text_of p f = render f.variables p f.clauses

-- Of a writing, by the text of the loaded formula: its length, if the buffer has so much space, and else that it is needed.
pub data WritePromised (l : Ledger) (space : ℕ) : WriteAnswer → Type 0 where
  promised_written : (p : List Binding) (f : LoadedFormula) → l.prefix ≡ Some p → l.formula ≡ Some f →
      length (text_of p f) ≤ space → WritePromised l space (written (length (text_of p f)))
  promised_short : (p : List Binding) (f : LoadedFormula) → l.prefix ≡ Some p → l.formula ≡ Some f →
      space < length (text_of p f) → WritePromised l space (too_short (length (text_of p f)))
  promised_unwritten : l.formula ≡ None → WritePromised l space nothing_to_write

-- What is promised of a dealing after a history, for a chooser's function. Whether the table may be full is judged by the ledger
-- that the dealing itself has entered, all else by the ledger before it.
abbrev pub Promised : (List Candidate → ℕ) → (never_holds : Type 0) → List Dealing → Dealing → Type 0
Promised pick never_holds history (load text a) = LoadPromised (ledger pick (load text a ∷ history)).weighed (read_all text) a
Promised pick never_holds history (decide allowance a) =
    DecisionPromised pick never_holds (ledger pick history) (ledger pick (decide allowance a ∷ history)).weighed allowance a
Promised pick never_holds history (write space a) = WritePromised (ledger pick history) space a
Promised pick never_holds history forget = Unit {0}

-- and of every dealing of a history
abbrev pub Promises : (List Candidate → ℕ) → (never_holds : Type 0) → List Dealing → Type 0
Promises pick never_holds [] = Unit {0}
Promises pick never_holds (d ∷ history) = Promised pick never_holds history d × Promises pick never_holds history

-- Of a session whose memo always holds a pair just after it is noted, which `retains` says: a verdict followed directly by a
-- decision whose allowance is not too large is answered again, without a split.
abbrev pub RepeatPromised : (retains : Type 0) → List Dealing → (allowance : ℕ) → DecideAnswer → Type 0
RepeatPromised retains history allowance a =
    retains → (before : ℕ) (b : Bool) (n : ℕ) (earlier : List Dealing) →
    history ≡ decide before (found b n) ∷ earlier → allowance ≤ most_allowed → a ≡ found b 0
