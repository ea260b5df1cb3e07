-- The memo that forgets every second pair.
use Rattle.std.specs.Prelude.{◌≡◌, ℕ, Bool, cond, not, Some, None, ◌==◌}
use Rattle.qbf.specs.Memo.{Pairs}
use Rattle.memos.specs.Slots.{slot_verdict}
use Rattle.open_traits.specs.declared.alternating.Alternating.{Alternating}

abbrev pub alternating_held : Alternating → Pairs
alternating_held s = slot_verdict s.taken

-- a pair that is forgotten takes only an earlier one of its number along; one that is taken is then the only one held
pub record AlternatingNotes (before : Alternating) (n : ℕ) (v : Bool) (after : Alternating) : Type 0 where
  pub turn : after.forgets ≡ not before.forgets
  pub pairs : (k : ℕ) → alternating_held after k ≡ cond before.forgets (cond (k == n) None (alternating_held before k)) (cond (k == n) (Some v) None)
