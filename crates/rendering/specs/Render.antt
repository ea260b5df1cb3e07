-- The text that is written of a formula.
use Rattle.std.specs.Prelude.{ℕ, ◌/◌, ◌%◌, Bool, true, false, cond, List, [], ◌∷◌, ◌++◌, map, length, decimal, ◌==◌, slice_index}
use Rattle.std.specs.List.{flat_map}
use Rattle.qbf.specs.declared.Quantifier.{Quantifier}
use Rattle.qbf.specs.declared.Quantifier.TheVariants.{Existential, Universal}
use Rattle.words.specs.declared.literals.Literal.{Literal}
use Rattle.words.specs.Numbers.{written}
use Rattle.formula.specs.declared.prefix.Binding.{Binding}
use Rattle.formula.specs.Positions.{variables_of}
use Rattle.grammar.specs.Grammar.{p_word, cnf_word, zero_word, letter}

-- a line: words with a space behind each, the last word, and byte 10
abbrev pub line : List (List ℕ) → List ℕ → List ℕ
line [] last = last ++ 10 ∷ []
line (w ∷ ws) last = w ++ 32 ∷ line ws last

-- p cnf, the number of variables and the number of clauses
abbrev pub problem_line : ℕ → ℕ → List ℕ
problem_line v n = line (p_word ∷ cnf_word ∷ decimal v ∷ []) (decimal n)

-- whether two quantifiers are the same
abbrev pub same_quantifier : Quantifier → Quantifier → Bool
same_quantifier Existential Existential = true
same_quantifier Existential Universal = false
same_quantifier Universal Existential = false
same_quantifier Universal Universal = true

-- prefix neighbours with one quantifier
pub record Block : Type 0 where
  pub quantifier : Quantifier
  pub variables : List ℕ

-- one variable more in front: it belongs to the first block if that has its quantifier, and is a block of its own otherwise
abbrev pub in_front : Binding → List Block → List Block
in_front b [] = record { quantifier = b.quantifier; variables = b.variable ∷ [] } ∷ []
in_front b (k ∷ ks) =
    cond (same_quantifier b.quantifier k.quantifier)
    (record { quantifier = k.quantifier; variables = b.variable ∷ k.variables } ∷ ks)
    (record { quantifier = b.quantifier; variables = b.variable ∷ [] } ∷ k ∷ ks)

-- the blocks of a prefix
abbrev pub blocks : List Binding → List Block
blocks [] = []
blocks (b ∷ bs) = in_front b (blocks bs)

-- the letter of the quantifier, the variables and a 0
abbrev pub block_line : Block → List ℕ
block_line k = line (letter k.quantifier ∷ map decimal k.variables) zero_word

-- the literal of a code: its variable stands at half the code in the prefix, and an odd code is negative
abbrev pub literal_of : List Binding → ℕ → Literal
literal_of prefix code = record { variable = slice_index (variables_of prefix) (code / 2); negative = (code % 2 == 1) }

-- the literals of a clause and a 0
abbrev pub clause_line : List Binding → List ℕ → List ℕ
clause_line prefix c = line (map (λ k. written (literal_of prefix k)) c) zero_word

-- the lines of the blocks, and those of the clauses
abbrev pub prefix_lines : List Binding → List ℕ
prefix_lines prefix = flat_map block_line (blocks prefix)

abbrev pub clause_lines : List Binding → List (List ℕ) → List ℕ
clause_lines prefix s = flat_map (clause_line prefix) s

-- the text of a formula: the problem line, a line for each block and a line for each clause of the set, in its order
abbrev pub render : ℕ → List Binding → List (List ℕ) → List ℕ
render v prefix s = problem_line v (length s) ++ (prefix_lines prefix ++ clause_lines prefix s)
