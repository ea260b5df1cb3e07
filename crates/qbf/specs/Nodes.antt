-- The nodes of a clause set, and when sets have more than a number of nodes together.
use Rattle.std.specs.Prelude.{◌≡◌, ℕ, ◌<◌, Bool, false, cond, not, List, [], ◌∷◌, length, filter, ◌==◌}
use Rattle.std.specs.List.{AllByRecursion}
use Rattle.qbf.specs.Lists.{In, Distinct}

-- the clause's lowest code is k (its codes rise)
abbrev pub begins : ℕ → List ℕ → Bool
begins k [] = false
begins k (x ∷ c) = k == x

-- for the lowest code k of a set: the clauses that hold k, with k taken out
abbrev pub with_side : ℕ → List (List ℕ) → List (List ℕ)
with_side k [] = []
with_side k ([] ∷ s) = with_side k s
with_side k ((x ∷ c) ∷ s) = cond (k == x) (c ∷ with_side k s) (with_side k s)

-- and its other clauses
abbrev pub without_side : ℕ → List (List ℕ) → List (List ℕ)
without_side k s = filter (λ c. not (begins k c)) s

-- x is a node of the set: the set itself if a clause of it is not empty, or a node of one of its two sides.
-- In the order of clauses the first is empty only if it is the only one, and otherwise begins with the set's lowest code.
pub data Node (x : List (List ℕ)) : List (List ℕ) → Type 0 where
  node_itself : {k : ℕ} {c : List ℕ} {s : List (List ℕ)} → x ≡ (k ∷ c) ∷ s → Node x ((k ∷ c) ∷ s)
  node_with : {k : ℕ} {c : List ℕ} {s : List (List ℕ)} → Node x (with_side k ((k ∷ c) ∷ s)) → Node x ((k ∷ c) ∷ s)
  node_without : {k : ℕ} {c : List ℕ} {s : List (List ℕ)} → Node x (without_side k ((k ∷ c) ∷ s)) → Node x ((k ∷ c) ∷ s)

-- the sets have more than n nodes together: more than n different sets, each a node of one of them
pub record Crowded (n : ℕ) (sets : List (List (List ℕ))) : Type 0 where
  pub list : List (List (List ℕ))
  pub long : n < length list
  pub apart : Distinct list
  pub nodes : AllByRecursion (λ x. (s : List (List ℕ)) × In s sets × Node x s) list
