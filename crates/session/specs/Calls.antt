-- What each call of a session owes.
use Rattle.std.specs.Prelude.{◌≡◌, ℕ, Bool, List, ◌∷◌, Some, Ok, Err, Result}
use Rattle.qbf.specs.declared.Candidate.{Candidate}
use Rattle.qbf.specs.Memo.{Pairs}
use Rattle.formula.specs.declared.prefix.Binding.{Binding}
use Rattle.writer.specs.Written.{Written}
use Rattle.ledger.specs.Answers.{LoadAnswer, DecideAnswer, WriteAnswer}
use Rattle.ledger.specs.Ledger.{Dealing, load, decide, write, LoadedFormula}
use Rattle.ledger.specs.Promises.{text_of}
use Rattle.histories.specs.Standing.{Standing}
use Rattle.histories.specs.Dealings.{Deals}
use Rattle.histories.specs.Histories.{Led, Honest}
use Rattle.session.specs.declared.answer.Loaded.{Loaded}
use Rattle.session.specs.declared.fault.Fault.{Fault}
use Rattle.session.specs.declared.session.Session.{Session}
use Rattle.session.specs.Views.{standing}
use Rattle.session.specs.Answers.{load_result, decide_result, write_result}

-- a memo's meaning is what it holds, `held`, and what a note may leave, `notes`; a chooser's is what it picks, `picks`

-- the dealings, newest first, led from a new session to this one
abbrev pub LedTo : {M C : Type 0} → (M → Pairs) → (M → ℕ → Bool → M → Type 0) → (C → List Candidate → ℕ) → List Dealing → Session M C → Type 0
LedTo held notes picks history s = Led held notes (picks s.chooser) history (standing s)

-- A session was dealt with. The chooser stays; the answer and where the session stands then are what the dealing's case says. And
-- for every history that led to the session before: the promises are kept by the ledger of that history, and the history with this
-- dealing leads to the session after.
pub record Dealt {M C : Type 0} (held : M → Pairs) (notes : M → ℕ → Bool → M → Type 0) (picks : C → List Candidate → ℕ) (s : Session M C) (d : Dealing) (t : Session M C) : Type 0 where
  pub chooser : t.chooser ≡ s.chooser
  pub deals : Deals held notes (picks s.chooser) (standing s) d (standing t)
  pub honest : (history : List Dealing) → LedTo held notes picks history s → Honest held notes (picks s.chooser) history d
  pub leads : (history : List Dealing) → LedTo held notes picks history s → LedTo held notes picks (d ∷ history) t

-- by a load of a text, a decision within an allowance, and a writing into so much space, with this answer
pub record LoadDealt {M C : Type 0} (held : M → Pairs) (notes : M → ℕ → Bool → M → Type 0) (picks : C → List Candidate → ℕ) (s : Session M C) (text : List ℕ) (r : Result Loaded Fault) (t : Session M C) : Type 0 where
  pub answer : LoadAnswer
  pub told : r ≡ load_result answer
  pub dealt : Dealt held notes picks s (load text answer) t

pub record DecideDealt {M C : Type 0} (held : M → Pairs) (notes : M → ℕ → Bool → M → Type 0) (picks : C → List Candidate → ℕ) (s : Session M C) (allowance : ℕ) (r : Result (Bool × ℕ) Fault) (t : Session M C) : Type 0 where
  pub answer : DecideAnswer
  pub told : r ≡ decide_result answer
  pub dealt : Dealt held notes picks s (decide allowance answer) t

pub record WriteDealt {M C : Type 0} (held : M → Pairs) (notes : M → ℕ → Bool → M → Type 0) (picks : C → List Candidate → ℕ) (s : Session M C) (space : ℕ) (r : Result ℕ Fault) : Type 0 where
  pub answer : WriteAnswer
  pub told : r ≡ write_result answer
  pub dealt : Dealt held notes picks s (write space answer) s

-- the text of the loaded formula stands at the front of the buffer, of which the rest is as it was
pub record Filled {M : Type 0} (s : Standing M) (before after : List ℕ) (n : ℕ) : Type 0 where
  pub prefix : List Binding
  pub formula : LoadedFormula
  pub prefix_there : s.prefix ≡ Some prefix
  pub formula_there : s.formula ≡ Some formula
  pub text : Written (text_of prefix formula) before after n

-- and a refusal leaves the whole buffer as it was
abbrev pub BufferLeft : {M : Type 0} → Standing M → List ℕ → List ℕ → Result ℕ Fault → Type 0
BufferLeft s before after (Ok n) = Filled s before after n
BufferLeft s before after (Err e) = after ≡ before
