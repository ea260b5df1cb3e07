-- What is told of a script.
use Rattle.std.specs.Prelude.{◌≡◌, ℕ, cond, List, [], ◌∷◌, ◌++◌, length, take, drop, Ok, Err, vec_items, codes, decimal, Result, MatchOption, nat_lt}
use Rattle.script.specs.declared.calls.Make.{Make}
use Rattle.script.specs.declared.scripts.Script.{Script}
use Rattle.script.specs.Reading.{Reads}
use Rattle.session.specs.declared.fault.Fault.{Fault}
use Rattle.runs.specs.declared.answer.Answer.{Answer}
use Rattle.runs.specs.declared.answer.Answer.TheVariants.{Loading, Decision, Writing, Forgotten}
use Rattle.runs.specs.declared.transcript.Transcript.{Transcript}
use Rattle.runs.specs.Lines.{answer_line}
use Rattle.replaying.specs.Makes.{RanAs}

-- how long the text is that was written
abbrev pub written_length : Result ℕ Fault → ℕ
written_length (Ok n) = n
written_length (Err e) = 0

abbrev pub text_length : Answer → ℕ
text_length (Loading r) = 0
text_length (Decision r) = 0
text_length (Writing r) = written_length r
text_length Forgotten = 0

-- an answer on a line, and then the text that was written, if any
abbrev pub told : Answer → List ℕ → List ℕ
told a text = answer_line a ++ (10 ∷ text)

-- one answer after the other, each with its part of the texts
abbrev pub all_told : List Answer → List ℕ → List ℕ
all_told [] texts = []
all_told (a ∷ answers) texts = told a (take (text_length a) texts) ++ all_told answers (drop (text_length a) texts)

-- that the script is not well formed at a place
abbrev pub stop_line : ℕ → List ℕ
stop_line at = codes "script not well formed at byte " ++ (decimal at ++ (10 ∷ []))

-- nothing if the script ends where it stops
abbrev pub ending : (stopped end : ℕ) → List ℕ
ending stopped end = cond (nat_lt stopped end) (stop_line stopped) []

-- the calls of a script were carried out on a session that was made so, and this is told
pub record MadeTold (input : List ℕ) (s : Script) (out : List ℕ) (m : Make) : Type 0 where
  pub transcript : Transcript
  pub ran : RanAs m (vec_items s.calls) transcript
  pub tells : out ≡ all_told (vec_items transcript.answers) (vec_items transcript.texts) ++ ending s.stopped (length input)

-- The script is read as far as it is spelled right, and its calls are carried out. If even the first line is not spelled right,
-- this alone is told.
pub record Replayed (input out : List ℕ) : Type 0 where
  pub script : Script
  pub reads : Reads input script
  pub tells : MatchOption script.make (out ≡ stop_line 0) (MadeTold input script out)
