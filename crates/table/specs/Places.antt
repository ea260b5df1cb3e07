-- Nodes in their places, the rules that they keep, and what they stand for.
-- The node at the place k has the number k + 2. Number 0 is the empty set and 1 the set of only the empty clause.
use Rattle.std.specs.Prelude.{ℕ, zero, suc, ◌+◌, ◌-◌, ◌<◌, ◌≤◌, cond, List, [], ◌∷◌, length, ◌==◌, ◌≢◌, slice_index_or}
use Rattle.sets.specs.Sides.{joined}
use Rattle.table.specs.declared.node.Node.{Node}

-- what a read past the end would give
abbrev pub nowhere : Node
nowhere = record { code = 0; with = 0; without = 0 }

abbrev pub node_at : List Node → ℕ → Node
node_at xs k = slice_index_or xs k nowhere

-- n is no node's number, or that of a node with a code above c
abbrev pub Above : List Node → ℕ → ℕ → Type 0
Above xs c n = 2 ≤ n → c < (node_at xs (n - 2)).code

-- no with-side is number 0
abbrev pub Filled : List Node → Type 0
Filled xs = (k : ℕ) → k < length xs → 0 < (node_at xs k).with

-- both sides of a node have greater codes
abbrev pub Climbing : List Node → Type 0
Climbing xs = (k : ℕ) → k < length xs → Above xs (node_at xs k).code (node_at xs k).with × Above xs (node_at xs k).code (node_at xs k).without

-- both sides of a node have lower numbers
abbrev pub Falling : List Node → Type 0
Falling xs = (k : ℕ) → k < length xs → ((node_at xs k).with < k + 2) × ((node_at xs k).without < k + 2)

-- no two nodes agree in code and sides
abbrev pub Apart : List Node → Type 0
Apart xs = (j k : ℕ) → j < k → k < length xs → node_at xs j ≢ node_at xs k

-- every code is one of the 512
abbrev pub Coded : List Node → Type 0
Coded xs = (k : ℕ) → k < length xs → (node_at xs k).code < 512

-- the rules that the nodes of every table keep
pub record Sound (xs : List Node) : Type 0 where
  pub filled : Filled xs
  pub climbing : Climbing xs
  pub falling : Falling xs
  pub apart : Apart xs
  pub coded : Coded xs

-- the set that the number n stands for, by the first k nodes: the clauses of the with-side with the node's code in front, then those of the without-side
unfoldable pub family : List Node → ℕ → ℕ → List (List ℕ)
family xs zero n = cond (n == 1) ([] ∷ []) []
family xs (suc k) n = cond (n == suc (suc k)) (joined (node_at xs k).code (family xs k (node_at xs k).with) (family xs k (node_at xs k).without)) (family xs k n)

-- the set that the number n stands for
abbrev pub set_of : List Node → ℕ → List (List ℕ)
set_of xs n = family xs (length xs) n
