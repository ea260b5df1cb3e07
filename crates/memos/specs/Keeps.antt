-- The keeping memo: its pairs are the items of a list.
use Rattle.std.specs.Prelude.{ℕ, Bool}
use Rattle.arrays.specs.Lists.{items_of}
use Rattle.qbf.specs.Memo.{Pairs}
use Rattle.memos.specs.declared.keeping.Keeping.{Keeping}
use Rattle.memos.specs.Notes.{KeepingNotes}
use Rattle.memos.specs.Rows.{verdict_among}

abbrev pub keeping_held : Keeping → Pairs
keeping_held s = verdict_among (items_of s.pairs)

abbrev pub keeping_notes : Keeping → ℕ → Bool → Keeping → Type 0
keeping_notes before n v after = KeepingNotes (keeping_held before) n v (keeping_held after)
