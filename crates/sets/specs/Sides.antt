-- A set from its two sides.
use Rattle.std.specs.Prelude.{ℕ, ◌<◌, List, ◌∷◌, ◌++◌, map}
use Rattle.std.specs.List.{AllByRecursion}

-- every code in the set is above k
abbrev pub Over : ℕ → List (List ℕ) → Type 0
Over k s = AllByRecursion (AllByRecursion (λ y. k < y)) s

-- the clauses of one set, each with k put in front, and then those of another
abbrev pub joined : ℕ → List (List ℕ) → List (List ℕ) → List (List ℕ)
joined k hi lo = map (λ c. k ∷ c) hi ++ lo
