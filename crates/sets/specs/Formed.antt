-- The set of clauses that are stored one after the other.
use Rattle.std.specs.Prelude.{◌≡◌, ℕ, ◌≤◌, ◌↔◌, List, [], ◌∷◌, length}
use Rattle.std.specs.List.{AllByRecursion}
use Rattle.qbf.specs.Lists.{In}
use Rattle.qbf.specs.Clauses.{Canonical, union}
use Rattle.sets.specs.Ordered.{clause_of}

-- the set s after the clauses are stored
abbrev pub formed : List (List ℕ) → List (List ℕ) → List (List ℕ)
formed s [] = s
formed s (c ∷ cs) = formed (union (clause_of c ∷ []) s) cs

-- the sets that this makes, in order: each clause alone, and after it the set of those so far
abbrev pub forming : List (List ℕ) → List (List ℕ) → List (List (List ℕ))
forming s [] = []
forming s (c ∷ cs) = (clause_of c ∷ []) ∷ union (clause_of c ∷ []) s ∷ forming (union (clause_of c ∷ []) s) cs

-- what holds of the set of stored clauses
pub record FormedLaws (cs : List (List ℕ)) : Type 0 where
  -- every set made has the one form
  pub canonical : Canonical (formed [] cs)
  pub steps_canonical : AllByRecursion Canonical (forming [] cs)
  -- the clauses of the set are the stored ones, with their codes in order
  pub members : (d : List ℕ) → In d (formed [] cs) ↔ ((c : List ℕ) × In c cs × (d ≡ clause_of c))
  pub few : length (formed [] cs) ≤ length cs
  -- a set whose clauses are stored again is formed again
  pub same : Canonical cs → formed [] cs ≡ cs

-- for every list of clauses
abbrev pub FormedStands : Type 0
FormedStands = (cs : List (List ℕ)) → FormedLaws cs
