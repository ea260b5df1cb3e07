-- Small formulas worked through: the verdict, and the splits of the bare walk that takes the first candidate.
use Rattle.std.specs.Prelude.{◌≡◌, ℕ, Bool, true, false, List, [], ◌∷◌, length}
use Rattle.qbf.specs.declared.Quantifier.{Quantifier}
use Rattle.qbf.specs.declared.Quantifier.TheVariants.{Existential, Universal}
use Rattle.qbf.specs.Value.{value}
use Rattle.qbf.specs.Walk.{bare}
use Rattle.qbf.specs.NodeList.{nodes, once}
use Rattle.qbf.specs.Decision.{spent, verdict, refused}
use Rattle.qbf.specs.Run.{make, Standing, run}
use Rattle.memos.specs.declared.pair.Pair.{Pair}
use Rattle.memos.specs.Rows.{verdict_among}
use Rattle.grammar.specs.Stored.{store_all}
use Rattle.sets.specs.Formed.{formed, forming}
use Rattle.choosers.specs.Preferred.{first_picks}
use Rattle.theory.specs.Models.{note_nothing, note_keeping}

-- the quantifiers of a prefix, outermost first, and the clauses as they are written, each as the codes of its literals
pub record Example : Type 0 where
  pub prefix : List Quantifier
  pub written : List (List ℕ)

-- the clauses that are stored, and the set of them
abbrev pub clauses : Example → List (List ℕ)
clauses x = store_all [] x.written

abbrev pub formula : Example → List (List ℕ)
formula x = formed [] (clauses x)

-- its verdict by full expansion, and the same verdict and the count of splits by the bare walk
pub record ComesTo (x : Example) (verdict : Bool) (splits : ℕ) : Type 0 where
  pub expanded : value x.prefix 0 (formula x) ≡ verdict
  pub walked : (bare first_picks x.prefix (formula x)).verdict ≡ verdict
  pub counted : (bare first_picks x.prefix (formula x)).splits ≡ splits

-- its decision just after it is loaded, with an empty memo that notes so
abbrev pub decision : (List Pair → ℕ → Bool → List Pair) → Example → ℕ → Standing (List Pair)
decision note x allowance = run verdict_among note x.prefix first_picks allowance (make [] (forming [] (clauses x))).table [] (formula x)

-- no variable and no clause
abbrev pub no_clauses : Example
no_clauses = record { prefix = []; written = [] }

-- no variable and the empty clause
abbrev pub empty_clause : Example
empty_clause = record { prefix = []; written = [] ∷ [] }

-- one of two variables is true, and one is false: the universal one is set first
abbrev pub unequal : List (List ℕ)
unequal = (0 ∷ 2 ∷ []) ∷ (1 ∷ 3 ∷ []) ∷ []

abbrev pub universal_first : Example
universal_first = record { prefix = Universal ∷ Existential ∷ []; written = unequal }

-- the same clauses, where the existential one is set first
abbrev pub existential_first : Example
existential_first = record { prefix = Existential ∷ Universal ∷ []; written = unequal }

-- a one-literal clause on a universal variable
abbrev pub universal_unit : Example
universal_unit = record { prefix = Universal ∷ []; written = (0 ∷ []) ∷ [] }

-- a lone literal of a universal variable, which is set false
abbrev pub universal_lone : Example
universal_lone = record { prefix = Universal ∷ Existential ∷ []; written = (0 ∷ 2 ∷ []) ∷ (0 ∷ 3 ∷ []) ∷ [] }

-- a clause with both signs of its variable, which is not stored
abbrev pub both_ways : Example
both_ways = record { prefix = Existential ∷ []; written = (0 ∷ 1 ∷ []) ∷ [] }

-- a set that is reached by both settings of the first variable
abbrev pub met_again : Example
met_again = record { prefix = Universal ∷ Universal ∷ Existential ∷ []; written = (0 ∷ 2 ∷ 4 ∷ []) ∷ (1 ∷ 2 ∷ 4 ∷ []) ∷ (3 ∷ 5 ∷ []) ∷ [] }

-- what all of them come to
pub record Examples : Type 0 where
  pub one : ComesTo no_clauses true 0
  pub two : ComesTo empty_clause false 0
  pub three : ComesTo universal_first true 1
  pub three_nodes : length (once (nodes (formula universal_first))) ≡ 4
  pub four : ComesTo existential_first false 1
  pub five : ComesTo universal_unit false 0
  pub six : ComesTo universal_lone false 0
  pub seven : ComesTo both_ways true 0
  pub seven_set : formula both_ways ≡ []
  pub eight : ComesTo met_again true 3
  -- two splits are too few with a memo that never holds a pair, and enough with one that keeps them
  pub eight_blank : (decision note_nothing met_again 2).ending ≡ refused spent
  pub eight_keeping : (decision note_keeping met_again 2).ending ≡ verdict true
  pub eight_splits : (decision note_keeping met_again 2).splits ≡ 2
