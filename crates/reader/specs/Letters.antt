-- Words of one letter.
use Rattle.std.specs.Prelude.{ℕ, cond, List, [], ◌∷◌, Some, None, Option}
use Rattle.std.specs.Str.{bytes_eq}
use Rattle.qbf.specs.declared.Quantifier.{Quantifier}
use Rattle.qbf.specs.declared.Quantifier.TheVariants.{Existential, Universal}
use Rattle.grammar.specs.Grammar.{letter}

-- the letter of a word that has no more
abbrev pub only : List ℕ → Option ℕ
only [] = None
only (b ∷ []) = Some b
only (b ∷ c ∷ bs) = None

-- the quantifier whose letter the word is
abbrev pub quantifier_of : List ℕ → Option Quantifier
quantifier_of bs = cond (bytes_eq bs (letter Universal)) (Some Universal) (cond (bytes_eq bs (letter Existential)) (Some Existential) None)
