-- The answer to a text as that of a new session with the keeping memo and the chooser of the lowest position.
use Rattle.std.specs.Prelude.{◌≡◌, ℕ, Bool, List, [], ◌∷◌, Ok, Err, Result}
use Rattle.memos.specs.declared.keeping.Keeping.{Keeping}
use Rattle.memos.specs.Keeps.{keeping_held, keeping_notes}
use Rattle.choosers.specs.Preferred.{first_picks}
use Rattle.ledger.specs.Answers.{LoadAnswer, loaded, DecideAnswer, found}
use Rattle.ledger.specs.Ledger.{Dealing, load, decide, most_allowed}
use Rattle.histories.specs.Standing.{Standing}
use Rattle.histories.specs.Histories.{Led, AllHonest}
use Rattle.session.specs.declared.fault.Fault.{Fault}
use Rattle.session.specs.Answers.{load_result, decide_result}
use Rattle.zulfringa.specs.declared.checking.Checked.{Checked}

-- the dealings with that session, newest first, and the answer that they come to: a load that is refused ends it, and else the
-- decision with the largest allowance gives the answer
pub data ComesTo (text : List ℕ) : List Dealing → Result Checked Fault → Type 0 where
  not_loaded : {a : LoadAnswer} {e : Fault} → load_result a ≡ Err e → ComesTo text (load text a ∷ []) (Err e)
  not_decided : {v c : ℕ} {d : DecideAnswer} {e : Fault} → decide_result d ≡ Err e → ComesTo text (decide most_allowed d ∷ load text (loaded v c) ∷ []) (Err e)
  decided : {v c n : ℕ} {b : Bool} → ComesTo text (decide most_allowed (found b n) ∷ load text (loaded v c) ∷ []) (Ok (record { verdict = b; splits = n; variables = v; declared = c }))

-- those dealings led to where the session stands, and the promises were kept at each
pub record BySession (text : List ℕ) (r : Result Checked Fault) : Type 0 where
  pub history : List Dealing
  pub stands : Standing Keeping
  pub led : Led keeping_held keeping_notes first_picks history stands
  pub honest : AllHonest keeping_held keeping_notes first_picks history
  pub comes_to : ComesTo text history r
