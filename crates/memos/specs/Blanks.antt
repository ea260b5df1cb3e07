-- The blank memo: every value of it holds nothing.
use Rattle.std.specs.Prelude.{ℕ, Bool, None}
use Rattle.qbf.specs.Memo.{Pairs}
use Rattle.memos.specs.declared.blank.Blank.{Blank}
use Rattle.memos.specs.Notes.{BlankNotes}

abbrev pub blank_held : Blank → Pairs
blank_held s k = None

abbrev pub blank_notes : Blank → ℕ → Bool → Blank → Type 0
blank_notes before n v after = BlankNotes (blank_held before) n v (blank_held after)
