-- How it is told that a text is not written.
use Rattle.std.specs.Prelude.{ℕ, List, ◌++◌, codes, decimal}
use Rattle.grammar.specs.Rules.{refusal}
use Rattle.normal.specs.declared.fault.Unwritten.{Unwritten}
use Rattle.normal.specs.declared.fault.Unwritten.TheVariants.{Unread, Full, TooShort}

-- a refusal's number, and the offset, 0 or the length needed
abbrev pub told : Unwritten → List ℕ
told (Unread e) = refusal e
told Full = codes "refused 10 at 0"
told (TooShort n) = codes "refused 9 at " ++ decimal n
