-- Texts put into a buffer.
use Rattle.std.specs.Prelude.{◌≡◌, ℕ, ◌+◌, ◌^◌, ◌<◌, List, [], ◌∷◌, length, slice_set}
use Rattle.writer.specs.declared.pen.Pen.{Pen}

-- the buffer with the text put over it from a place on; what lies past its end is lost
abbrev pub overlaid : List ℕ → ℕ → List ℕ → List ℕ
overlaid buffer at [] = buffer
overlaid buffer at (b ∷ text) = overlaid (slice_set buffer at b) (at + 1) text

-- the pen stands at a place from which all places of the text can be counted
abbrev pub Room : Pen → List ℕ → Type 0
Room p text = p.at + length text < 2 ^ 64

-- the pen p put the text into its buffer, and then was q
pub record Puts (p : Pen) (text : List ℕ) (q : Pen) : Type 0 where
  pub same_buffer : q.buffer.ghost_name ≡ p.buffer.ghost_name
  pub over : Room p text → q.buffer.now ≡ overlaid p.buffer.now p.at text
  pub behind : Room p text → q.at ≡ p.at + length text
