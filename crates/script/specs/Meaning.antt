-- What a call says, and that its spelling says nothing else.
use Rattle.std.specs.Prelude.{◌≡◌, ℕ, ◌^◌, ◌<◌, List, ◌++◌, length}
use Rattle.script.specs.declared.calls.Call.{Call}
use Rattle.script.specs.declared.calls.Call.TheVariants.{Load, Decide, Write, Forget}
use Rattle.script.specs.Spelling.{space_bytes, spelled}
use Rattle.script.specs.Reading.{InRange}

-- a call without the place where its text lies in memory
pub data Said : Type 0 where
  loads : List ℕ → Said
  decides : ℕ → Said
  writes : ℕ → Said
  forgets : Said

abbrev pub said : Call → Said
said (Load text) = loads text.now
said (Decide allowance) = decides allowance
said (Write space) = writes (space_bytes space)
said Forget = forgets

-- a text spells at most one call at its front
abbrev pub SpellingStands : Type 0
SpellingStands = (c d : Call) (rest left : List ℕ) → InRange c → InRange d → length (spelled c ++ rest) < 2 ^ 64 → spelled c ++ rest ≡ spelled d ++ left → (said c ≡ said d) × (rest ≡ left)
