-- A text written into a buffer, or not.
use Rattle.std.specs.Prelude.{◌≡◌, ℕ, ◌<◌, ◌≤◌, List, ◌++◌, length, drop}
use Rattle.writer.specs.Puts.{overlaid}

-- the text was put over the front of the buffer, as far as the buffer reaches; n is the text's length
pub record Put (text before after : List ℕ) (n : ℕ) : Type 0 where
  pub over : after ≡ overlaid before 0 text
  pub counted : n ≡ length text

-- the text stands at the front of the buffer, of which the rest is as it was; n is the text's length
pub record Written (text before after : List ℕ) (n : ℕ) : Type 0 where
  pub counted : n ≡ length text
  pub fits : length text ≤ length before
  pub stands : after ≡ text ++ drop n before

-- the buffer is too short for the text and is as it was; n is the text's length
pub record Short (text before after : List ℕ) (n : ℕ) : Type 0 where
  pub counted : n ≡ length text
  pub too_short : length before < length text
  pub kept : after ≡ before
