-- The nodes of sets, by computing.
use Rattle.std.specs.Prelude.{ℕ, zero, suc, Bool, true, false, cond, ◌&&◌, ◌||◌, List, [], ◌∷◌, ◌++◌, nat_eq}
use Rattle.qbf.specs.Nodes.{with_side, without_side}
use Rattle.qbf.specs.Reduce.{size}

-- whether two lists have the same elements in order, by a test of elements
abbrev pub equal_by : {A : Type 0} → (A → A → Bool) → List A → List A → Bool
equal_by eq [] [] = true
equal_by eq [] (y ∷ ys) = false
equal_by eq (x ∷ xs) [] = false
equal_by eq (x ∷ xs) (y ∷ ys) = eq x y && equal_by eq xs ys

-- whether two sets are the same
abbrev pub same_set : List (List ℕ) → List (List ℕ) → Bool
same_set = equal_by (equal_by nat_eq)

-- whether the set is one of the list
abbrev pub listed : List (List ℕ) → List (List (List ℕ)) → Bool
listed x [] = false
listed x (y ∷ ys) = same_set x y || listed x ys

-- each set of the list once
abbrev pub once : List (List (List ℕ)) → List (List (List ℕ))
once [] = []
once (x ∷ xs) = cond (listed x xs) (once xs) (x ∷ once xs)

-- the nodes of a set, at most n below one another: those of its sides first, as a table has them, and then the set itself
unfoldable pub nodes_within : ℕ → List (List ℕ) → List (List (List ℕ))
nodes_within n [] = []
nodes_within n ([] ∷ s) = []
nodes_within zero ((k ∷ c) ∷ s) = []
nodes_within (suc n) ((k ∷ c) ∷ s) =
    nodes_within n (with_side k ((k ∷ c) ∷ s)) ++ (nodes_within n (without_side k ((k ∷ c) ∷ s)) ++ (((k ∷ c) ∷ s) ∷ []))

-- the nodes of a set; one may stand there several times
abbrev pub nodes : List (List ℕ) → List (List (List ℕ))
nodes s = nodes_within (size s) s

abbrev pub nodes_of_all : List (List (List ℕ)) → List (List (List ℕ))
nodes_of_all [] = []
nodes_of_all (s ∷ sets) = nodes s ++ nodes_of_all sets
