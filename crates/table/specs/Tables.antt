-- What a table stands for, and how it grows.
use Rattle.std.specs.Prelude.{◌≡◌, ℕ, ◌+◌, ◌<◌, ◌≤◌, List, [], ◌∷◌, ◌++◌, length, Result, MatchResult}
use Rattle.std.specs.List.{AllByRecursion}
use Rattle.qbf.specs.Lists.{In}
use Rattle.qbf.specs.Nodes.{Node as NodeOf}
use Rattle.sets.specs.Sides.{Over, joined}
use Rattle.arrays.specs.Lists.{items_of}
use Rattle.table.specs.declared.node.Node.{Node}
use Rattle.table.specs.declared.table.Full.{Full}
use Rattle.table.specs.declared.table.Table.{Table}
use Rattle.table.specs.Places.{set_of}

-- the nodes, in the order in which they were made
abbrev pub nodes_of : Table → List Node
nodes_of t = items_of t.nodes

-- how many nodes there are
abbrev pub size_of : Table → ℕ
size_of t = length (nodes_of t)

-- n is a number of the table: one of the two sets without nodes, or a node's
abbrev pub Number : Table → ℕ → Type 0
Number t n = n < size_of t + 2

-- the set that the number n stands for
unfoldable pub clauses : Table → ℕ → List (List ℕ)
clauses t n = set_of (nodes_of t) n

-- n is the number of the set s
pub record Is (s : List (List ℕ)) (t : Table) (n : ℕ) : Type 0 where
  pub held : Number t n
  pub means : clauses t n ≡ s

-- the set s has a number
abbrev pub Held : Table → List (List ℕ) → Type 0
Held t s = (n : ℕ) × Is s t n

-- the table t has become u: no node is lost, the numbers of t stand for what they stood for, and each new one for a node of one of the sets
pub record Adds (t : Table) (sets : List (List (List ℕ))) (u : Table) : Type 0 where
  pub larger : size_of t ≤ size_of u
  pub keeps : (n : ℕ) → Number t n → clauses u n ≡ clauses t n
  pub gains : (n : ℕ) → size_of t + 2 ≤ n → Number u n → (s : List (List ℕ)) × In s sets × NodeOf (clauses u n) s

-- the table holds 4,096 nodes and lacks a node of the set s
pub record Misses (s : List (List ℕ)) (t : Table) : Type 0 where
  pub full : size_of t ≡ 4096
  pub part : List (List ℕ)
  pub of_it : NodeOf part s
  pub absent : Held t part → ⊥

-- the making of the set s: the table gained only nodes of s, and the answer is the number of s, or else the table has no room for s
pub record Makes (t : Table) (s : List (List ℕ)) (u : Table) (r : Result ℕ Full) : Type 0 where
  pub grows : Adds t (s ∷ []) u
  pub cases : MatchResult r (Is s u) (λ _. Misses s u)

-- the sets are all made: the table has them, and gained only nodes of theirs
pub record Made (t : Table) (sets : List (List (List ℕ))) (u : Table) : Type 0 where
  pub grows : Adds t sets u
  pub held : AllByRecursion (Held u) sets

-- the making of the sets, in order, ended at one that the table has no room for: those before it are made, and only nodes of those and of this one were gained
pub record Stopped (t : Table) (sets : List (List (List ℕ))) (u : Table) : Type 0 where
  pub before : List (List (List ℕ))
  pub hand : List (List ℕ)
  pub after : List (List (List ℕ))
  pub order : sets ≡ before ++ (hand ∷ after)
  pub grows : Adds t (before ++ (hand ∷ [])) u
  pub held : AllByRecursion (Held u) before
  pub misses : Misses hand u

-- the making of the sets in order, where the answer is the number of the last, s
pub record MakesAll (t : Table) (sets : List (List (List ℕ))) (s : List (List ℕ)) (u : Table) (r : Result ℕ Full) : Type 0 where
  pub cases : MatchResult r (λ n. Made t sets u × Is s u n) (λ _. Stopped t sets u)

-- the number n stands for a set with a non-empty clause, and x is its node: the set's lowest code and its two sides
pub record Opens (t : Table) (n : ℕ) (x : Node) : Type 0 where
  pub means : clauses t n ≡ joined x.code (clauses t x.with) (clauses t x.without)
  pub with_over : Over x.code (clauses t x.with)
  pub without_over : Over x.code (clauses t x.without)
  pub filled : 0 < x.with
  pub with_less : x.with < n
  pub without_less : x.without < n
  pub coded : x.code < 512
