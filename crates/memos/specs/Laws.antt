-- What holds of the delivered memos beyond what every memo promises.
use Rattle.std.specs.Prelude.{◌≡◌, ℕ, ◌≤◌, length}
use Rattle.arrays.specs.Lists.{items_of}
use Rattle.qbf.specs.Memo.{Pairs, Retains}
use Rattle.memos.specs.declared.keeping.Keeping.{Keeping}
use Rattle.memos.specs.Notes.{Holding}
use Rattle.memos.specs.Slots.{slotted_held, slotted_notes}
use Rattle.memos.specs.Keeps.{keeping_held}

-- a note always leaves the noted pair in the slotted memo
abbrev pub SlottedRetains : Type 0
SlottedRetains = Retains slotted_held slotted_notes

-- the length of the keeping memo's list is the number of pairs that it holds, which never exceeds 1,024
abbrev pub KeepingCounts : Type 0
KeepingCounts = (s : Keeping) → Holding (keeping_held s) (length (items_of s.pairs)) × (length (items_of s.pairs) ≤ 1024)

-- a memo holds one number of pairs: two counts of them agree
abbrev pub OneCount : Type 0
OneCount = (held : Pairs) (m n : ℕ) → Holding held m → Holding held n → m ≡ n
