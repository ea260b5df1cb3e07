-- Calls and their answers, as dealings.
use Rattle.std.specs.Prelude.{ℕ, List, [], ◌∷◌, ◌++◌}
use Rattle.std.specs.Borrow.{Bor}
use Rattle.script.specs.declared.calls.Call.{Call}
use Rattle.script.specs.declared.calls.Call.TheVariants.{Load, Decide, Write, Forget}
use Rattle.script.specs.declared.space.Space.{Space}
use Rattle.script.specs.Spelling.{space_bytes}
use Rattle.ledger.specs.Answers.{LoadAnswer, DecideAnswer, WriteAnswer}
use Rattle.ledger.specs.Ledger.{Dealing, load, decide, write, forget}
use Rattle.session.specs.Answers.{load_result, decide_result, write_result}
use Rattle.runs.specs.declared.answer.Answer.{Answer}
use Rattle.runs.specs.declared.answer.Answer.TheVariants.{Loading, Decision, Writing, Forgotten}

-- a call and its answer are this dealing
pub data IsDealing : Call → Answer → Dealing → Type 0 where
  is_load : {text : Bor (List ℕ)} (a : LoadAnswer) → IsDealing (Load text) (Loading (load_result a)) (load text.now a)
  is_decision : {allowance : ℕ} (a : DecideAnswer) → IsDealing (Decide allowance) (Decision (decide_result a)) (decide allowance a)
  is_writing : {space : Space} (a : WriteAnswer) → IsDealing (Write space) (Writing (write_result a)) (write (space_bytes space) a)
  is_forgetting : IsDealing Forget Forgotten forget

-- calls and their answers, oldest first, are these dealings, newest first
pub data AreDealings : List Call → List Answer → List Dealing → Type 0 where
  none_yet : AreDealings [] [] []
  one_more : {calls : List Call} {answers : List Answer} {history : List Dealing} {c : Call} {a : Answer} {d : Dealing} →
      AreDealings calls answers history → IsDealing c a d → AreDealings (calls ++ c ∷ []) (answers ++ a ∷ []) (d ∷ history)
