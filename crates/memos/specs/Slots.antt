-- The slotted memo: the pair of a number stands in the slot of its remainder by 1,024.
use Rattle.std.specs.Prelude.{ℕ, ◌%◌, Bool, [], ◌∷◌, Some, None, Option, slice_index_or}
use Rattle.qbf.specs.Memo.{Pairs}
use Rattle.memos.specs.declared.pair.Pair.{Pair}
use Rattle.memos.specs.declared.slotted.Slotted.{Slotted}
use Rattle.memos.specs.Notes.{SlottedNotes}
use Rattle.memos.specs.Rows.{verdict_among}

-- what a slot says of a number
abbrev pub slot_verdict : Option Pair → Pairs
slot_verdict None n = None
slot_verdict (Some p) n = verdict_among (p ∷ []) n

abbrev pub slotted_held : Slotted → Pairs
slotted_held s n = slot_verdict (slice_index_or s.slots (n % 1024) None) n

abbrev pub slotted_notes : Slotted → ℕ → Bool → Slotted → Type 0
slotted_notes before n v after = SlottedNotes (slotted_held before) n v (slotted_held after)
