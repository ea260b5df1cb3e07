-- Exactly which pairs each delivered memo holds after a note of the verdict v for the number n.
use Rattle.std.specs.Prelude.{◌≡◌, ℕ, ◌%◌, ◌<◌, ◌≤◌, Bool, true, cond, List, length, is_some, Some, None, ◌==◌}
use Rattle.qbf.specs.Lists.{Distinct, mem}
use Rattle.qbf.specs.Memo.{Pairs, Empty}

-- the blank memo holds none
abbrev pub BlankNotes : Pairs → ℕ → Bool → Pairs → Type 0
BlankNotes before n v after = Empty after

-- the slotted memo holds the noted pair and every earlier pair whose number differs from it modulo 1,024
abbrev pub SlottedNotes : Pairs → ℕ → Bool → Pairs → Type 0
SlottedNotes before n v after = (k : ℕ) → after k ≡ cond (k == n) (Some v) (cond (k % 1024 == n % 1024) None (before k))

-- so many pairs are held: a list has the numbers that have one, each once
pub record Holding (held : Pairs) (count : ℕ) : Type 0 where
  pub numbers : List ℕ
  pub long : length numbers ≡ count
  pub apart : Distinct numbers
  pub listed : (k : ℕ) → is_some (held k) ≡ mem k numbers

-- the noted pair is held, and every earlier pair of another number
abbrev pub Put : Pairs → ℕ → Bool → Pairs → Type 0
Put before n v after = (k : ℕ) → after k ≡ cond (k == n) (Some v) (before k)

-- the keeping memo replaces the pair of a number that it holds, takes another pair if it holds fewer than 1,024, and ignores it otherwise
pub record KeepingNotes (before : Pairs) (n : ℕ) (v : Bool) (after : Pairs) : Type 0 where
  pub count : ℕ
  pub holding : Holding before count
  pub replaced : is_some (before n) ≡ true → Put before n v after
  pub taken : before n ≡ None → count < 1024 → Put before n v after
  pub ignored : before n ≡ None → 1024 ≤ count → (k : ℕ) → after k ≡ before k
