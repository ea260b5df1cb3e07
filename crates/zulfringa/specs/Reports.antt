-- What the program prints of the answer to a text.
use Rattle.std.specs.Prelude.{ℕ, cond, List, ◌∷◌, ◌++◌, Ok, Err, codes, decimal, Result}
use Rattle.session.specs.declared.fault.Fault.{Fault}
use Rattle.session.specs.Told.{fault_told, refused_line}
use Rattle.zulfringa.specs.declared.checking.Checked.{Checked}

-- `s cnf R V C` and `c splits N` on two lines, with 1 for true and 0 for false; or `c refused N at P`
abbrev pub printed : Result Checked Fault → List ℕ
printed (Ok c) =
    codes "s cnf " ++ (decimal (cond c.verdict 1 0) ++ (codes " " ++ (decimal c.variables ++ (codes " " ++ (decimal c.declared
    ++ (10 ∷ (codes "c splits " ++ decimal c.splits)))))))
printed (Err e) = codes "c " ++ refused_line (fault_told e)
