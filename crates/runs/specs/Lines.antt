-- The line that tells an answer.
use Rattle.std.specs.Prelude.{ℕ, Bool, cond, List, ◌++◌, Ok, Err, codes, decimal, Result}
use Rattle.session.specs.declared.answer.Loaded.{Loaded}
use Rattle.session.specs.declared.fault.Fault.{Fault}
use Rattle.session.specs.Told.{fault_told, refused_line}
use Rattle.runs.specs.declared.answer.Answer.{Answer}
use Rattle.runs.specs.declared.answer.Answer.TheVariants.{Loading, Decision, Writing, Forgotten}

-- `loaded V C`
abbrev pub load_line : Result Loaded Fault → List ℕ
load_line (Ok l) = codes "loaded " ++ decimal l.variables ++ codes " " ++ decimal l.declared
load_line (Err e) = refused_line (fault_told e)

-- `verdict R splits N`, with 1 for true and 0 for false
abbrev pub decide_line : Result (Bool × ℕ) Fault → List ℕ
decide_line (Ok (b, n)) = codes "verdict " ++ decimal (cond b 1 0) ++ codes " splits " ++ decimal n
decide_line (Err e) = refused_line (fault_told e)

-- `wrote L`
abbrev pub write_line : Result ℕ Fault → List ℕ
write_line (Ok n) = codes "wrote " ++ decimal n
write_line (Err e) = refused_line (fault_told e)

-- the line, without its end
abbrev pub answer_line : Answer → List ℕ
answer_line (Loading r) = load_line r
answer_line (Decision r) = decide_line r
answer_line (Writing r) = write_line r
answer_line Forgotten = codes "forgot"
