-- The words of a text, each with its offset, its bytes and whether it is the first of its line, computed byte by byte.
use Rattle.std.specs.Prelude.{◌≡◌, ℕ, ◌+◌, Bool, true, false, cond, not, ◌||◌, List, [], ◌∷◌, ◌++◌, drop, Some, None, Option, IfNone, MatchOption, ◌==◌}
use Rattle.words.specs.declared.scanner.Line.{Line}
use Rattle.words.specs.declared.scanner.Line.TheVariants.{Start, Blank, Comment}
use Rattle.words.specs.declared.scanner.Word.{Word}
use Rattle.words.specs.declared.scanner.Scanner.{Scanner}

-- what a byte is to the words of a text
pub data Kind : Type 0 where
  Space : Kind
  LineEnd : Kind
  Ink : Kind

-- only byte 32, the space, and byte 10, the line end, divide words
abbrev pub kind : ℕ → Kind
kind b = cond (b == 10) LineEnd (cond (b == 32) Space Ink)

-- a byte of a word
abbrev pub ink : ℕ → Bool
ink b = not (b == 32 || b == 10)

-- a word of a text: the offset of its first byte, its bytes, and whether it is the first word of its line
pub record Token : Type 0 where
  pub at : ℕ
  pub bytes : List ℕ
  pub first : Bool

-- a word that the code holds, as a token
abbrev pub token : Word → Token
token w = record { at = w.at; bytes = w.bytes.now; first = w.first }

-- what a byte makes of a line ahead of the first word; none if the word begins there. A comment begins with byte 99, the letter c
abbrev pub onward : Line → ℕ → Option Line
onward Start b = cond (b == 10) (Some Start) (cond (b == 32) (Some Blank) (cond (b == 99) (Some Comment) None))
onward Blank b = cond (b == 10) (Some Start) (cond (b == 32) (Some Blank) None)
onward Comment b = cond (b == 10) (Some Start) (Some Comment)

-- ahead of the first word, on such a line; between words, with whether no word stands before that on the line;
-- or in a word, with its offset, its bytes so far and whether it is the first of its line
pub data Mode : Type 0 where
  ahead : Line → Mode
  gap : Bool → Mode
  run : ℕ → List ℕ → Bool → Mode

-- the word that the text's end ends
abbrev pub close : Mode → List Token
close (ahead l) = []
close (gap f) = []
close (run a bs f) = record { at = a; bytes = bs; first = f } ∷ []

-- the word that a byte ends
abbrev pub emit : Mode → Kind → List Token
emit (ahead l) k = []
emit (gap f) k = []
emit (run a bs f) Ink = []
emit (run a bs f) Space = record { at = a; bytes = bs; first = f } ∷ []
emit (run a bs f) LineEnd = record { at = a; bytes = bs; first = f } ∷ []

-- still ahead of the first word, or in it from this byte on
abbrev pub begin : Option Line → ℕ → ℕ → Mode
begin (Some l) off b = ahead l
begin None off b = run off (b ∷ []) true

-- the mode after the byte b at the offset off
abbrev pub step : Mode → Kind → ℕ → ℕ → Mode
step (ahead l) k off b = begin (onward l b) off b
step (gap f) LineEnd off b = gap true
step (gap f) Space off b = gap f
step (gap f) Ink off b = run off (b ∷ []) f
step (run a bs f) LineEnd off b = gap true
step (run a bs f) Space off b = gap false
step (run a bs f) Ink off b = run a (bs ++ b ∷ []) f

-- the words of the bytes from the offset on
abbrev pub scan : Mode → ℕ → List ℕ → List Token
scan m off [] = close m
scan m off (b ∷ bs) = emit m (kind b) ++ scan (step m (kind b) off b) (off + 1) bs

-- the words that a scanner has yet to give
abbrev pub left : Scanner → List Token
left s = scan (gap s.fresh) s.pos (drop s.pos s.text.now)

-- the words of a text
abbrev pub words_of : List ℕ → List Token
words_of text = scan (ahead Start) 0 text

-- a call of `next` gave the first of the words that were left, or none where none was left, and then none is; the text stays
pub record GivesWord (s : Scanner) (r : Option Word) (t : Scanner) : Type 0 where
  pub cases : MatchOption r (left s ≡ []) (λ w. left s ≡ token w ∷ left t)
  pub ended : IfNone r (left t ≡ [])
  pub same : t.text.now ≡ s.text.now
