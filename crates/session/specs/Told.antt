-- How a fault is told: by its number, and the value that it carries, if any.
use Rattle.std.specs.Prelude.{ℕ, List, ◌++◌, codes, decimal}
use Rattle.std.specs.Option.{unwrap_or}
use Rattle.grammar.specs.Rules.{number_of}
use Rattle.decision.specs.declared.unfinished.Halt.{Halt}
use Rattle.decision.specs.Endings.{refusal}
use Rattle.ledger.specs.Answers.{Told, number_only, with_value, refusal_number}
use Rattle.session.specs.declared.fault.Fault.{Fault}
use Rattle.session.specs.declared.fault.Fault.TheVariants.{Unread, NoFormula, AllowanceTooLarge, TooShort, TableFull, Undecided}

abbrev pub halt_number : Halt → ℕ
halt_number h = refusal_number (refusal h)

abbrev pub fault_told : Fault → Told
fault_told (Unread f) = with_value (number_of f.rule) f.at
fault_told NoFormula = number_only 7
fault_told AllowanceTooLarge = number_only 8
fault_told (TooShort n) = with_value 9 n
fault_told TableFull = number_only 10
fault_told (Undecided u) = with_value (halt_number u.halt) u.splits

-- `refused N at P`, with 0 where the refusal carries no value
abbrev pub refused_line : Told → List ℕ
refused_line t = codes "refused " ++ (decimal t.number ++ (codes " at " ++ decimal (unwrap_or t.value 0)))
