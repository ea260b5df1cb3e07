-- What carrying out a list of calls on a new session comes to.
use Rattle.std.specs.Prelude.{◌≡◌, ℕ, Bool, List, [], ◌∷◌, ◌++◌, Some, None, vec_items, Option}
use Rattle.qbf.specs.declared.Candidate.{Candidate}
use Rattle.qbf.specs.Memo.{Pairs}
use Rattle.formula.specs.declared.prefix.Binding.{Binding}
use Rattle.script.specs.declared.calls.Call.{Call}
use Rattle.ledger.specs.Answers.{WriteAnswer, written, nothing_to_write, too_short}
use Rattle.ledger.specs.Ledger.{Dealing, load, decide, write, forget, LoadedFormula, ledger}
use Rattle.ledger.specs.Promises.{text_of}
use Rattle.histories.specs.Standing.{Standing}
use Rattle.histories.specs.Histories.{Led, AllHonest}
use Rattle.runs.specs.declared.transcript.Transcript.{Transcript}
use Rattle.runs.specs.Records.{AreDealings}

-- the text of the loaded formula under the loaded prefix; none if no formula is loaded
abbrev pub loaded_text : Option (List Binding) → Option LoadedFormula → List ℕ
loaded_text None o = []
loaded_text (Some p) None = []
loaded_text (Some p) (Some f) = text_of p f

-- what a writing puts into its buffer, by the loaded prefix and the loaded formula
abbrev pub text_put : Option (List Binding) → Option LoadedFormula → WriteAnswer → List ℕ
text_put o f (written n) = loaded_text o f
text_put o f nothing_to_write = []
text_put o f (too_short n) = []

-- what a dealing after a history puts into a buffer
abbrev pub put_by : (List Candidate → ℕ) → List Dealing → Dealing → List ℕ
put_by pick history (load text a) = []
put_by pick history (decide allowance a) = []
put_by pick history (write space a) = text_put (ledger pick history).prefix (ledger pick history).formula a
put_by pick history forget = []

-- all that was put into buffers, oldest first
abbrev pub all_put : (List Candidate → ℕ) → List Dealing → List ℕ
all_put pick [] = []
all_put pick (d ∷ history) = all_put pick history ++ put_by pick history d

-- The calls were carried out on a new session, one after the other, and answered so: the dealings led to where the session stands,
-- every promise was kept at every place, and the texts written are those of the formulas that the ledger says were loaded.
pub record Ran {M : Type 0} (held : M → Pairs) (notes : M → ℕ → Bool → M → Type 0) (pick : List Candidate → ℕ) (calls : List Call) (t : Transcript) : Type 0 where
  pub history : List Dealing
  pub stands : Standing M
  pub recorded : AreDealings calls (vec_items t.answers) history
  pub led : Led held notes pick history stands
  pub honest : AllHonest held notes pick history
  pub texts : vec_items t.texts ≡ all_put pick history
