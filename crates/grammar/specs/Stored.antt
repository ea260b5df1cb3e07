-- Which clauses of a text are stored, each as the list of its literals' codes.
use Rattle.std.specs.Prelude.{ℕ, Bool, cond, List, [], ◌∷◌, ◌++◌}
use Rattle.std.specs.List.{list_any}
use Rattle.clause.specs.Once.{once, both_signs, same_set}

-- whether a clause of the list has the same literals
abbrev pub repeated : List ℕ → List (List ℕ) → Bool
repeated c ds = list_any (same_set c) ds

-- One clause more, as it was written: each literal once; not stored are one with both signs of a variable,
-- and one that is stored already.
abbrev pub store : List (List ℕ) → List ℕ → List (List ℕ)
store stored c = cond (both_signs c) stored (cond (repeated (once c) stored) stored (stored ++ once c ∷ []))

-- the clauses of a text, one after the other
abbrev pub store_all : List (List ℕ) → List (List ℕ) → List (List ℕ)
store_all stored [] = stored
store_all stored (c ∷ cs) = store_all (store stored c) cs
