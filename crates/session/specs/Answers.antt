-- The answers of the calls, each as the code gives it: a refusal is a fault.
use Rattle.std.specs.Prelude.{ℕ, Bool, Ok, Err, Result}
use Rattle.qbf.specs.Decision.{Refusal, full, spent, too_deep}
use Rattle.decision.specs.declared.unfinished.Halt.{Halt}
use Rattle.decision.specs.declared.unfinished.Halt.TheVariants.{Full, Spent, TooDeep}
use Rattle.ledger.specs.Answers.{LoadAnswer, loaded, unread, load_full, DecideAnswer, found, undecided, nothing_to_decide, allowance_too_large, WriteAnswer, written, nothing_to_write, too_short}
use Rattle.session.specs.declared.answer.Loaded.{Loaded}
use Rattle.session.specs.declared.fault.Fault.{Fault}
use Rattle.session.specs.declared.fault.Fault.TheVariants.{Unread, NoFormula, AllowanceTooLarge, TooShort, TableFull, Undecided}

abbrev pub load_result : LoadAnswer → Result Loaded Fault
load_result (loaded v c) = Ok (record { variables = v; declared = c })
load_result (unread f) = Err (Unread f)
load_result load_full = Err TableFull

abbrev pub halted : Refusal → Halt
halted full = Full
halted spent = Spent
halted too_deep = TooDeep

abbrev pub decide_result : DecideAnswer → Result (Bool × ℕ) Fault
decide_result (found b n) = Ok (b, n)
decide_result (undecided f n) = Err (Undecided (record { halt = halted f; splits = n }))
decide_result nothing_to_decide = Err NoFormula
decide_result allowance_too_large = Err AllowanceTooLarge

abbrev pub write_result : WriteAnswer → Result ℕ Fault
write_result (written n) = Ok n
write_result nothing_to_write = Err NoFormula
write_result (too_short n) = Err (TooShort n)
