-- How the calls of a session are answered, and how a refusal is told: by its number, from 1 to 12, and a value.
use Rattle.std.specs.Prelude.{ℕ, Bool, Some, None, Option}
use Rattle.qbf.specs.Decision.{Refusal, full, spent, too_deep, Ending, verdict, refused}
use Rattle.grammar.specs.declared.fault.ReadFault.{ReadFault}
use Rattle.grammar.specs.Rules.{number_of}

-- a load: V and C of the problem line; what the reader refuses the text for; or that the table is full
pub data LoadAnswer : Type 0 where
  loaded : (variables declared : ℕ) → LoadAnswer
  unread : ReadFault → LoadAnswer
  load_full : LoadAnswer

-- a decision: a verdict, or why it ended without one, each with the splits made; that no formula is loaded;
-- or that the allowance is above the largest
pub data DecideAnswer : Type 0 where
  found : Bool → (splits : ℕ) → DecideAnswer
  undecided : Refusal → (splits : ℕ) → DecideAnswer
  nothing_to_decide : DecideAnswer
  allowance_too_large : DecideAnswer

-- a writing: the length of the text; that no formula is loaded; or that the buffer is too short, with the length needed
pub data WriteAnswer : Type 0 where
  written : (length : ℕ) → WriteAnswer
  nothing_to_write : WriteAnswer
  too_short : (needed : ℕ) → WriteAnswer

-- how a decision that was carried out is answered
abbrev pub answer : Ending → (splits : ℕ) → DecideAnswer
answer (verdict b) n = found b n
answer (refused f) n = undecided f n

-- a refusal as it is told: its number, and the value that it carries, if any
pub record Told : Type 0 where
  pub number : ℕ
  pub value : Option ℕ

abbrev pub number_only : ℕ → Told
number_only n = record { number = n; value = None }

abbrev pub with_value : ℕ → ℕ → Told
with_value n v = record { number = n; value = Some v }

-- the numbers of a decision that ends without a verdict
abbrev pub refusal_number : Refusal → ℕ
refusal_number full = 10
refusal_number spent = 11
refusal_number too_deep = 12

-- How each answer is told that is a refusal. The reader's number, from 1 to 6, carries the byte offset; 9 carries the length
-- needed; 10 to 12 from a decision carry the splits made. 7, 8 and a load's 10 carry nothing.
abbrev pub load_told : LoadAnswer → Option Told
load_told (loaded v c) = None
load_told (unread f) = Some (with_value (number_of f.rule) f.at)
load_told load_full = Some (number_only 10)

abbrev pub decide_told : DecideAnswer → Option Told
decide_told (found b n) = None
decide_told nothing_to_decide = Some (number_only 7)
decide_told allowance_too_large = Some (number_only 8)
decide_told (undecided f n) = Some (with_value (refusal_number f) n)

abbrev pub write_told : WriteAnswer → Option Told
write_told (written n) = None
write_told nothing_to_write = Some (number_only 7)
write_told (too_short n) = Some (with_value 9 n)
