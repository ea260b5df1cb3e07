-- What the numbers of a node table stand for, as the list of the sets of the numbers 2, 3, .., and how it grows when sets are made.
use Rattle.std.specs.Prelude.{◌≡◌, ℕ, zero, suc, ◌≤◌, List, [], ◌∷◌, ◌++◌, length, Some, None, Option}
use Rattle.std.specs.List.{AllByRecursion}
use Rattle.qbf.specs.Lists.{In, Distinct}
use Rattle.qbf.specs.Nodes.{Node}

-- The sets of the numbers 2, 3, .. in order. It is read off a node table, whose own rules say more: both sides of a node have
-- lower numbers than it, and no two nodes agree.
abbrev pub Numbering : Type 0
Numbering = List (List (List ℕ))

-- how many nodes a table holds at most
abbrev pub capacity : ℕ
capacity = 4096

-- the element at a place, counted from 0
abbrev pub nth : {A : Type 0} → List A → ℕ → Option A
nth [] i = None
nth (x ∷ xs) zero = Some x
nth (x ∷ xs) (suc i) = nth xs i

-- The set that a number stands for: 0 for the empty set, 1 for the set of only the empty clause, the others in the table's order.
abbrev pub stands : Numbering → ℕ → Option (List (List ℕ))
stands table zero = Some []
stands table (suc zero) = Some ([] ∷ [])
stands table (suc (suc i)) = nth table i

-- x is a node of one of the sets
abbrev pub Among : List (List (List ℕ)) → List (List ℕ) → Type 0
Among sets x = (s : List (List ℕ)) × In s sets × Node x s

-- A table has gained nodes of the sets, and nothing else: earlier numbers stand for what they stood for.
pub record Gains (before : Numbering) (sets : List (List (List ℕ))) (after : Numbering) : Type 0 where
  pub added : Numbering
  pub joined : after ≡ before ++ added
  pub nodes : AllByRecursion (Among sets) added

-- The sets were made: the table has gained only nodes of theirs, and now has them all. No two numbers stand for one set.
pub record Makes (before : Numbering) (sets : List (List (List ℕ))) (after : Numbering) : Type 0 where
  pub gains : Gains before sets after
  pub whole : (s x : List (List ℕ)) → In s sets → Node x s → In x after
  pub apart : Distinct after
  pub within : length after ≤ capacity

-- The sets were made in order until one could not be: those before it are made, and the table, which has gained only nodes of
-- theirs and of this one, is full and lacks one of its nodes.
pub record Stops (before : Numbering) (sets : List (List (List ℕ))) (after : Numbering) : Type 0 where
  pub made : List (List (List ℕ))
  pub hand : List (List ℕ)
  pub rest : List (List (List ℕ))
  pub order : sets ≡ made ++ (hand ∷ rest)
  pub gains : Gains before (made ++ (hand ∷ [])) after
  pub whole : (s x : List (List ℕ)) → In s made → Node x s → In x after
  pub full : length after ≡ capacity
  pub lacking : (x : List (List ℕ)) × Node x hand × (In x after → ⊥)
  pub apart : Distinct after
