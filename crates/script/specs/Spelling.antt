-- The text that spells a script. Byte 10 ends a line, and byte 32 is the space between words.
use Rattle.std.specs.Prelude.{ℕ, List, [], ◌∷◌, ◌++◌, length, codes, decimal}
use Rattle.script.specs.declared.calls.Call.{Call}
use Rattle.script.specs.declared.calls.Call.TheVariants.{Load, Decide, Write, Forget}
use Rattle.script.specs.declared.calls.ChooserKind.{ChooserKind}
use Rattle.script.specs.declared.calls.ChooserKind.TheVariants.{First, Busiest}
use Rattle.script.specs.declared.calls.Make.{Make}
use Rattle.script.specs.declared.calls.MemoKind.{MemoKind}
use Rattle.script.specs.declared.calls.MemoKind.TheVariants.{Blank, Slotted, Keeping}
use Rattle.script.specs.declared.space.Space.{Space}

abbrev pub memo_word : MemoKind → List ℕ
memo_word Blank = codes "blank"
memo_word Slotted = codes "slotted"
memo_word Keeping = codes "keeping"

abbrev pub chooser_word : ChooserKind → List ℕ
chooser_word First = codes "first"
chooser_word Busiest = codes "busiest"

-- the first line of a script, without its end
abbrev pub make_line : Make → List ℕ
make_line m = codes "session " ++ memo_word m.memo ++ 32 ∷ chooser_word m.chooser

abbrev pub spelled_make : Make → List ℕ
spelled_make m = make_line m ++ 10 ∷ []

-- how many bytes a space has
abbrev pub space_bytes : Space → ℕ
space_bytes s = s.bytes

-- the line of a call, without its end
abbrev pub line : Call → List ℕ
line (Load text) = codes "load " ++ decimal (length text.now)
line (Decide allowance) = codes "decide " ++ decimal allowance
line (Write space) = codes "write " ++ decimal (space_bytes space)
line Forget = codes "forget"

-- what follows the line's end: the bytes of the text that is loaded
abbrev pub body : Call → List ℕ
body (Load text) = text.now
body (Decide allowance) = []
body (Write space) = []
body Forget = []

abbrev pub spelled : Call → List ℕ
spelled c = line c ++ 10 ∷ body c

abbrev pub spelled_all : List Call → List ℕ
spelled_all [] = []
spelled_all (c ∷ cs) = spelled c ++ spelled_all cs
