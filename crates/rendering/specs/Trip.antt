-- What is proved of the text that is written.
use Rattle.std.specs.Prelude.{◌≡◌, ℕ, ◌<◌, ◌≤◌, List, [], ◌∷◌, map, length, Ok, ◌≢◌}
use Rattle.std.specs.List.{flat_map, AllByRecursion}
use Rattle.formula.specs.declared.prefix.Binding.{Binding}
use Rattle.formula.specs.Views.{Reading}
use Rattle.grammar.specs.Grammar.{bind, Format}
use Rattle.grammar.specs.Steps.{read_all}
use Rattle.sets.specs.Formed.{formed}
use Rattle.rendering.specs.Render.{Block, blocks, render}

-- no two neighbours have the same quantifier
abbrev pub Alternate : List Block → Type 0
Alternate [] = Unit {0}
Alternate (k ∷ []) = Unit {0}
Alternate (k ∷ l ∷ ks) = (k.quantifier ≢ l.quantifier) × Alternate (l ∷ ks)

-- the blocks make up the prefix, none is empty, and none could be longer
pub record Blocked (prefix : List Binding) (ks : List Block) : Type 0 where
  pub whole : flat_map (λ k. map (bind k.quantifier) k.variables) ks ≡ prefix
  pub filled : AllByRecursion (λ k. 0 < length k.variables) ks
  pub longest : Alternate ks

-- the blocks of every prefix are its longest runs of neighbours with one quantifier
abbrev pub BlocksStand : Type 0
BlocksStand = (prefix : List Binding) → Blocked prefix (blocks prefix)

-- a formula with the set that its clauses form: V and the prefix as they are, and as many clauses as the set has
abbrev pub as_set : Reading → Reading
as_set f = record { variables = f.variables; declared = length (formed [] f.clauses); prefix = f.prefix; clauses = formed [] f.clauses }

-- what is written of a formula
abbrev pub text_of : Reading → List ℕ
text_of f = render f.variables f.prefix (formed [] f.clauses)

-- what is written of a formula that was read from a text
pub record Returns (text : List ℕ) (f : Reading) : Type 0 where
  -- it is no longer than the text
  pub short : length (text_of f) ≤ length text
  -- it has the format, with the same V, the same prefix and the same set of clauses, and is read so
  pub format : Format (text_of f) (as_set f)
  pub read : read_all (text_of f) ≡ Ok (as_set f)
  pub same_set : formed [] (as_set f).clauses ≡ formed [] f.clauses
  -- and written again it is the same text
  pub again : text_of (as_set f) ≡ text_of f

-- so it is for every text of the format
abbrev pub RoundTrip : Type 0
RoundTrip = (text : List ℕ) (f : Reading) → Format text f → Returns text f
