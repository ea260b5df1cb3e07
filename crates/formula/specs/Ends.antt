-- Clauses that stand one behind the other in one list of literals, by where each ends.
use Rattle.std.specs.Prelude.{ℕ, zero, suc, Bool, ◌&&◌, List, [], ◌∷◌, ◌==◌, nat_le, slice_index}
use Rattle.std.specs.List.{between}

-- the ends rise from a start to the top
abbrev pub climbs : ℕ → List ℕ → ℕ → Bool
climbs start [] top = start == top
climbs start (e ∷ es) top = nat_le start e && climbs e es top

-- where the clause at a place begins
abbrev pub beginning : ℕ → List ℕ → ℕ → ℕ
beginning start es zero = start
beginning start es (suc i) = slice_index es i

-- the clauses from a start on
abbrev pub clauses_from : ℕ → List ℕ → List ℕ → List (List ℕ)
clauses_from start [] literals = []
clauses_from start (e ∷ es) literals = between start e literals ∷ clauses_from e es literals
