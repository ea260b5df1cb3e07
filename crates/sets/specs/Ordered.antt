-- A clause from its codes, given in any order.
use Rattle.std.specs.Prelude.{ℕ, cond, List, [], ◌∷◌, ◌==◌, nat_lt}

-- a rising list with one more code in its place; a code that is there already stays once
abbrev pub placed : ℕ → List ℕ → List ℕ
placed x [] = x ∷ []
placed x (y ∷ c) = cond (nat_lt x y) (x ∷ (y ∷ c)) (cond (x == y) (y ∷ c) (y ∷ placed x c))

-- the codes in rising order, each once
abbrev pub clause_of : List ℕ → List ℕ
clause_of [] = []
clause_of (x ∷ c) = placed x (clause_of c)
