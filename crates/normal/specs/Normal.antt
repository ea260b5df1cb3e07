-- What is answered to a text that is to be written in the writer's form.
use Rattle.std.specs.Prelude.{◌≡◌, ℕ, List, [], Ok, Err, Result}
use Rattle.qbf.specs.Nodes.{Crowded}
use Rattle.formula.specs.Views.{Reading}
use Rattle.grammar.specs.Grammar.{Format}
use Rattle.grammar.specs.Refusals.{Refused}
use Rattle.sets.specs.Formed.{forming}
use Rattle.rendering.specs.Trip.{text_of}
use Rattle.writer.specs.Written.{Written, Short}
use Rattle.normal.specs.declared.fault.Unwritten.{Unwritten}
use Rattle.normal.specs.declared.fault.Unwritten.TheVariants.{Unread, Full, TooShort}

-- The text has the format, and what is written of its formula stands at the front of the buffer; or the reason why not, with the
-- buffer as it was: the reader refuses the text; the sets that its clauses make, one after the other, have more nodes together
-- than a table holds; or the buffer is too short, with the length needed.
abbrev pub Normal : List ℕ → List ℕ → List ℕ → Result ℕ Unwritten → Type 0
Normal text before after (Ok n) = (f : Reading) × Format text f × Written (text_of f) before after n
Normal text before after (Err (Unread e)) = Refused text e.rule e.at × (after ≡ before)
Normal text before after (Err Full) = (f : Reading) × Format text f × Crowded 4096 (forming [] f.clauses) × (after ≡ before)
Normal text before after (Err (TooShort n)) = (f : Reading) × Format text f × Short (text_of f) before after n
