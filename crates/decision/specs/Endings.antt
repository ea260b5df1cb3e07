-- How the answer of a decision ends it.
use Rattle.std.specs.Prelude.{ℕ, Bool, Ok, Err, Result}
use Rattle.qbf.specs.Decision.{Refusal, full, spent, too_deep, Ending, verdict, refused}
use Rattle.decision.specs.declared.unfinished.Halt.{Halt}
use Rattle.decision.specs.declared.unfinished.Halt.TheVariants.{Full, Spent, TooDeep}
use Rattle.decision.specs.declared.unfinished.Unfinished.{Unfinished}

abbrev pub refusal : Halt → Refusal
refusal Full = full
refusal Spent = spent
refusal TooDeep = too_deep

-- by a verdict, or without one
abbrev pub ending_of : Result (Bool × ℕ) Unfinished → Ending
ending_of (Ok a) = verdict a.0
ending_of (Err u) = refused (refusal u.halt)

-- and the splits that were made
abbrev pub splits_of : Result (Bool × ℕ) Unfinished → ℕ
splits_of (Ok a) = a.1
splits_of (Err u) = u.splits

-- the same of an answer that tells no splits
abbrev pub came_to : Result Bool Halt → Ending
came_to (Ok b) = verdict b
came_to (Err halt) = refused (refusal halt)
