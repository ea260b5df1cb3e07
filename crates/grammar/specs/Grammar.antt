-- The format: which texts there are, and which formula each of them is.
use Rattle.std.specs.Prelude.{◌≡◌, ℕ, ◌-◌, ◌<◌, ◌≤◌, Bool, true, false, cond, List, [], ◌∷◌, ◌++◌, map, length, Some, decimal, slice_index}
use Rattle.std.specs.List.{AllByRecursion}
use Rattle.qbf.specs.declared.Quantifier.{Quantifier}
use Rattle.qbf.specs.declared.Quantifier.TheVariants.{Existential, Universal}
use Rattle.qbf.specs.Literals.{positive, negative}
use Rattle.qbf.specs.Lists.{Distinct}
use Rattle.words.specs.declared.literals.Literal.{Literal}
use Rattle.words.specs.Numbers.{written}
use Rattle.words.specs.Words.{Token, words_of}
use Rattle.formula.specs.declared.prefix.Binding.{Binding}
use Rattle.formula.specs.Positions.{variables_of, position}
use Rattle.formula.specs.Views.{Reading}
use Rattle.grammar.specs.Stored.{store_all}

-- the words p, cnf and 0, and the letters a and e of the quantifiers
abbrev pub p_word : List ℕ
p_word = 112 ∷ []

abbrev pub cnf_word : List ℕ
cnf_word = 99 ∷ 110 ∷ 102 ∷ []

abbrev pub zero_word : List ℕ
zero_word = 48 ∷ []

abbrev pub letter : Quantifier → List ℕ
letter Universal = 97 ∷ []
letter Existential = 101 ∷ []

-- the words begin a line and stand on it alone
abbrev pub OnOneLine : List Token → Type 0
OnOneLine [] = ⊥
OnOneLine (w ∷ ws) = (w.first ≡ true) × AllByRecursion (λ u. u.first ≡ false) ws

-- the words begin on a new line
abbrev pub OnNewLine : List Token → Type 0
OnNewLine [] = Unit {0}
OnNewLine (w ∷ ws) = w.first ≡ true

-- p cnf V C
pub data ProblemLine (v c : ℕ) : List Token → Type 0 where
  problem_line : {p cnf variables clauses : Token} →
      OnOneLine (p ∷ cnf ∷ variables ∷ clauses ∷ []) →
      p.bytes ≡ p_word → cnf.bytes ≡ cnf_word →
      variables.bytes ≡ decimal v → v ≤ 256 →
      clauses.bytes ≡ decimal c → c ≤ 2048 →
      ProblemLine v c (p ∷ cnf ∷ variables ∷ clauses ∷ [])

-- variables from 1 to v, and then a 0
pub data Variables (v : ℕ) : List Token → List ℕ → Type 0 where
  end : {w : Token} → w.bytes ≡ zero_word → Variables v (w ∷ []) []
  variable : {w : Token} {n : ℕ} {ws : List Token} {ns : List ℕ} →
      w.bytes ≡ decimal n → 0 < n → n ≤ v → Variables v ws ns → Variables v (w ∷ ws) (n ∷ ns)

abbrev pub bind : Quantifier → ℕ → Binding
bind q n = record { variable = n; quantifier = q }

-- prefix lines: a quantifier's letter, one or more variables and a 0, each alone on its line
pub data PrefixLines (v : ℕ) : List Token → List Binding → Type 0 where
  none : PrefixLines v [] []
  line : {w : Token} {ws us : List Token} {q : Quantifier} {n : ℕ} {ns : List ℕ} {bs : List Binding} →
      OnOneLine (w ∷ ws) → w.bytes ≡ letter q → Variables v ws (n ∷ ns) →
      PrefixLines v us bs → PrefixLines v ((w ∷ ws) ++ us) (map (bind q) (n ∷ ns) ++ bs)

-- the code of a literal of the variable at a place of the prefix
abbrev pub code_at : Bool → ℕ → ℕ
code_at minus p = cond minus (negative p) (positive p)

-- the prefix binds the literal's variable, and k is the literal's code
abbrev pub Coded : List Binding → Literal → ℕ → Type 0
Coded prefix l k = (p : ℕ) × (position l.variable prefix ≡ Some p) × (k ≡ code_at l.negative p)

-- literals of bound variables, and then a 0
pub data Clause (v : ℕ) (prefix : List Binding) : List Token → List ℕ → Type 0 where
  end : {w : Token} → w.bytes ≡ zero_word → Clause v prefix (w ∷ []) []
  literal : {w : Token} (l : Literal) {k : ℕ} {ws : List Token} {ks : List ℕ} →
      w.bytes ≡ written l → 0 < l.variable → l.variable ≤ v → Coded prefix l k →
      Clause v prefix ws ks → Clause v prefix (w ∷ ws) (k ∷ ks)

-- clauses one after the other, on whatever lines
pub data Clauses (v : ℕ) (prefix : List Binding) : List Token → List (List ℕ) → Type 0 where
  none : Clauses v prefix [] []
  more : {ws us : List Token} {c : List ℕ} {cs : List (List ℕ)} →
      Clause v prefix ws c → Clauses v prefix us cs → Clauses v prefix (ws ++ us) (c ∷ cs)

-- whether the last line has its line end
abbrev pub Ended : List ℕ → Type 0
Ended text = slice_index text (length text - 1) ≡ 10

-- The text has the format, and is this formula: a problem line, prefix lines that bind no variable twice,
-- and as many clauses as the problem line says, which begin on a line of their own.
pub record Format (text : List ℕ) (f : Reading) : Type 0 where
  pub short : length text ≤ 60000
  pub ended : Ended text
  pub problem : List Token
  pub lines : List Token
  pub body : List Token
  pub written_clauses : List (List ℕ)
  pub whole : words_of text ≡ problem ++ (lines ++ body)
  pub problem_is : ProblemLine f.variables f.declared problem
  pub prefix_is : PrefixLines f.variables lines f.prefix
  pub bound_once : Distinct (variables_of f.prefix)
  pub body_begins : OnNewLine body
  pub clauses_are : Clauses f.variables f.prefix body written_clauses
  pub counted : length written_clauses ≡ f.declared
  pub stored : f.clauses ≡ store_all [] written_clauses
