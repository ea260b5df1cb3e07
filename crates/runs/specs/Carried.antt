-- What carrying out one call comes to.
use Rattle.std.specs.Prelude.{◌≡◌, ℕ, Bool, List, [], ◌++◌}
use Rattle.qbf.specs.declared.Candidate.{Candidate}
use Rattle.qbf.specs.Memo.{Pairs}
use Rattle.script.specs.declared.calls.Call.{Call}
use Rattle.ledger.specs.Ledger.{Dealing, load, decide, write, forget}
use Rattle.histories.specs.Standing.{Standing}
use Rattle.session.specs.declared.session.Session.{Session}
use Rattle.session.specs.Calls.{Dealt}
use Rattle.session.specs.Views.{standing}
use Rattle.runs.specs.declared.answer.Answer.{Answer}
use Rattle.runs.specs.Records.{IsDealing}
use Rattle.runs.specs.Runs.{text_put}

-- what a dealing puts into a buffer where the session stands
abbrev pub put_at : {M : Type 0} → Standing M → Dealing → List ℕ
put_at s (load text a) = []
put_at s (decide allowance a) = []
put_at s (write space a) = text_put s.prefix s.formula a
put_at s forget = []

-- A call was carried out on a session and answered so: the session was dealt with, and the text that was written, if any, is
-- behind the texts before it.
pub record Carried {M C : Type 0} (held : M → Pairs) (notes : M → ℕ → Bool → M → Type 0) (picks : C → List Candidate → ℕ) (s : Session M C) (before : List ℕ) (c : Call) (a : Answer) (t : Session M C) (after : List ℕ) : Type 0 where
  pub dealing : Dealing
  pub is : IsDealing c a dealing
  pub dealt : Dealt held notes picks s dealing t
  pub texts : after ≡ before ++ put_at (standing s) dealing
