-- A text that is written, byte by byte.
use Rattle.std.specs.Prelude.{◌≡◌, ℕ, List, [], ◌∷◌}
use Rattle.qbf.specs.declared.Quantifier.TheVariants.{Existential, Universal}
use Rattle.formula.specs.declared.prefix.Binding.{Binding}
use Rattle.grammar.specs.Grammar.{bind}
use Rattle.sets.specs.Formed.{formed}
use Rattle.rendering.specs.Render.{render}

-- the variables 1 and 2 are universal, 3 is existential
abbrev pub sample_prefix : List Binding
sample_prefix = bind Universal 1 ∷ bind Universal 2 ∷ bind Existential 3 ∷ []

-- the clauses (-1 3 2), (-3 -2) and (1 2 3), as codes
abbrev pub sample_clauses : List (List ℕ)
sample_clauses = (1 ∷ 4 ∷ 2 ∷ []) ∷ (5 ∷ 3 ∷ []) ∷ (0 ∷ 2 ∷ 4 ∷ []) ∷ []

-- the bytes of these lines
abbrev pub sample_text : List ℕ
sample_text =
    -- p cnf 3 3
    112 ∷ 32 ∷ 99 ∷ 110 ∷ 102 ∷ 32 ∷ 51 ∷ 32 ∷ 51 ∷ 10 ∷
    -- a 1 2 0
    97 ∷ 32 ∷ 49 ∷ 32 ∷ 50 ∷ 32 ∷ 48 ∷ 10 ∷
    -- e 3 0
    101 ∷ 32 ∷ 51 ∷ 32 ∷ 48 ∷ 10 ∷
    -- 1 2 3 0
    49 ∷ 32 ∷ 50 ∷ 32 ∷ 51 ∷ 32 ∷ 48 ∷ 10 ∷
    -- -1 2 3 0
    45 ∷ 49 ∷ 32 ∷ 50 ∷ 32 ∷ 51 ∷ 32 ∷ 48 ∷ 10 ∷
    -- -2 -3 0
    45 ∷ 50 ∷ 32 ∷ 45 ∷ 51 ∷ 32 ∷ 48 ∷ 10 ∷
    []

-- what is written of them is that text
abbrev pub SampleStands : Type 0
SampleStands = render 3 sample_prefix (formed [] sample_clauses) ≡ sample_text
