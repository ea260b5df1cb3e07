-- The words of a text, declared.
use Rattle.std.specs.Prelude.{◌≡◌, ℕ, ◌+◌, ◌<◌, ◌≤◌, Bool, true, false, List, [], ◌∷◌, ◌++◌, length, take, drop, ◌≢◌}
use Rattle.std.specs.List.{AllByRecursion}
use Rattle.words.specs.Words.Kind.{Space, LineEnd, Ink}
use Rattle.words.specs.Words.{kind, Token, words_of}

-- a text that does not go on with a byte of a word
abbrev pub Cut : List ℕ → Type 0
Cut [] = Unit {0}
Cut (b ∷ bs) = kind b ≡ Ink → ⊥

-- the words from the offset on, where no comment stands: each is a longest run of bytes that are neither a space nor a line end.
-- The flag says that no word stands before the offset on its line
pub data Runs : ℕ → Bool → List ℕ → List Token → Type 0 where
  done : {off : ℕ} {f : Bool} → Runs off f [] []
  line_end : {off : ℕ} {f : Bool} {b : ℕ} {bs : List ℕ} {ws : List Token} → kind b ≡ LineEnd → Runs (off + 1) true bs ws → Runs off f (b ∷ bs) ws
  space : {off : ℕ} {f : Bool} {b : ℕ} {bs : List ℕ} {ws : List Token} → kind b ≡ Space → Runs (off + 1) f bs ws → Runs off f (b ∷ bs) ws
  word : {off : ℕ} {f : Bool} {w rest : List ℕ} {ws : List Token} → 0 < length w → AllByRecursion (λ b. kind b ≡ Ink) w → Cut rest → Runs (off + length w) false rest ws → Runs off f (w ++ rest) (record { at = off; bytes = w; first = f } ∷ ws)

-- the words from the offset of a line's first byte on, where no word stands before it
pub data Words : ℕ → List ℕ → List Token → Type 0 where
  -- a comment: a line that begins with the letter c
  comment : {off : ℕ} (line rest : List ℕ) {ws : List Token} → AllByRecursion (λ b. b ≢ 10) line → Words (off + 1 + length line + 1) rest ws → Words off (99 ∷ line ++ 10 ∷ rest) ws
  -- a comment that the text's end cuts off
  last_comment : {off : ℕ} {line : List ℕ} → AllByRecursion (λ b. b ≢ 10) line → Words off (99 ∷ line) []
  -- a blank line: spaces alone
  blank : {off : ℕ} (spaces rest : List ℕ) {ws : List Token} → AllByRecursion (λ b. b ≡ 32) spaces → Words (off + length spaces + 1) rest ws → Words off (spaces ++ 10 ∷ rest) ws
  -- a blank line that the text's end cuts off
  last_blank : {off : ℕ} {spaces : List ℕ} → AllByRecursion (λ b. b ≡ 32) spaces → Words off spaces []
  -- a line that is neither: it holds the first word, and from it on no comment stands
  body : {off : ℕ} (spaces : List ℕ) (b : ℕ) (rest : List ℕ) {ws : List Token} → AllByRecursion (λ b. b ≡ 32) spaces → kind b ≡ Ink → (length spaces ≡ 0 → b ≢ 99) → Runs off true (spaces ++ b ∷ rest) ws → Words off (spaces ++ b ∷ rest) ws

-- words that are not empty, each ended before the next begins, all between the two offsets
abbrev pub Rising : ℕ → ℕ → List Token → Type 0
Rising from to [] = Unit {0}
Rising from to (w ∷ ws) = (from ≤ w.at) × (0 < length w.bytes) × (w.at + length w.bytes ≤ to) × Rising (w.at + length w.bytes) to ws

-- the words of a text
pub record Divided (text : List ℕ) : Type 0 where
  -- they are those that are declared, and no others are
  pub are : Words 0 text (words_of text)
  pub only : (ws : List Token) → Words 0 text ws → ws ≡ words_of text
  -- they follow one another within the text, and the bytes of each stand at its offset
  pub rise : Rising 0 (length text) (words_of text)
  pub stand : AllByRecursion (λ w. take (length w.bytes) (drop w.at text) ≡ w.bytes) (words_of text)

abbrev pub WordsStand : Type 0
WordsStand = (text : List ℕ) → Divided text
