-- A set by its sides at a code that is at most its lowest.
use Rattle.std.specs.Prelude.{◌≡◌, ℕ, ◌<◌, ◌≤◌, ◌⊎◌, List, ◌∷◌}
use Rattle.std.specs.List.{AllByRecursion}
use Rattle.sets.specs.Sides.{Over, joined}
use Rattle.table.specs.declared.table.Table.{Table}
use Rattle.table.specs.Tables.{clauses}

-- every code of the set is k or above
abbrev pub From : ℕ → List (List ℕ) → Type 0
From k s = AllByRecursion (AllByRecursion (λ y. k ≤ y)) s

-- the set's first clause begins with k
abbrev pub Leads : ℕ → List (List ℕ) → Type 0
Leads k s = (c : List ℕ) × (cs : List (List ℕ)) × (s ≡ (k ∷ c) ∷ cs)

-- k is the lowest code of the sets a and b
pub record Lowest (t : Table) (a b k : ℕ) : Type 0 where
  pub a_from : From k (clauses t a)
  pub b_from : From k (clauses t b)
  pub met : Leads k (clauses t a) ⊎ Leads k (clauses t b)
  pub coded : k < 512

-- the set n has these sides at the code k; where k is its lowest code, they have lower numbers
pub record Sided (t : Table) (n k hi lo : ℕ) : Type 0 where
  pub means : clauses t n ≡ joined k (clauses t hi) (clauses t lo)
  pub hi_over : Over k (clauses t hi)
  pub lo_over : Over k (clauses t lo)
  pub hi_le : hi ≤ n
  pub lo_le : lo ≤ n
  pub less : Leads k (clauses t n) → (hi < n) × (lo < n)
