-- What holds of every table.
use Rattle.std.specs.Prelude.{◌≡◌, ℕ, ◌-◌, ◌<◌, ◌≤◌, List, [], ◌∷◌}
use Rattle.qbf.specs.Clauses.{Canonical}
use Rattle.std.specs.List.{AllByRecursion}
use Rattle.qbf.specs.Lists.{In}
use Rattle.qbf.specs.Nodes.{Node as NodeOf, Crowded}
use Rattle.table.specs.declared.table.Table.{Table}
use Rattle.table.specs.Places.{node_at}
use Rattle.table.specs.Tables.{nodes_of, size_of, Number, clauses, Misses}

-- the numbers 0 and 1 stand for the two sets without nodes
abbrev pub EndsStand : Type 0
EndsStand = (t : Table) → (clauses t 0 ≡ []) × (clauses t 1 ≡ [] ∷ [])

-- no table has more than 4,096 nodes
abbrev pub SizesFit : Type 0
SizesFit = (t : Table) → size_of t ≤ 4096

-- each number stands for a set in its one form
abbrev pub SetsFormed : Type 0
SetsFormed = (t : Table) (n : ℕ) → Number t n → Canonical (clauses t n)

-- every code in a set is one of the 512
abbrev pub SetsCoded : Type 0
SetsCoded = (t : Table) (n : ℕ) → Number t n → AllByRecursion (AllByRecursion (λ y. y < 512)) (clauses t n)

-- two numbers that stand for the same set are the same number
abbrev pub NumbersApart : Type 0
NumbersApart = (t : Table) (m n : ℕ) → Number t m → Number t n → clauses t m ≡ clauses t n → m ≡ n

-- the node m is reached from n: it is n's own, or reached from one of n's sides
pub data Reached (t : Table) (m : ℕ) : ℕ → Type 0 where
  reached_itself : {n : ℕ} → 2 ≤ n → m ≡ n → Reached t m n
  reached_with : {n : ℕ} → 2 ≤ n → Reached t m (node_at (nodes_of t) (n - 2)).with → Reached t m n
  reached_without : {n : ℕ} → 2 ≤ n → Reached t m (node_at (nodes_of t) (n - 2)).without → Reached t m n

-- the nodes of a set are exactly the table's nodes reached from its number
pub record NodesExact (t : Table) (n : ℕ) : Type 0 where
  pub each : (x : List (List ℕ)) → NodeOf x (clauses t n) → (m : ℕ) × Number t m × Reached t m n × (clauses t m ≡ x)
  pub only : (m : ℕ) → Reached t m n → NodeOf (clauses t m) (clauses t n)

abbrev pub NodesReached : Type 0
NodesReached = (t : Table) (n : ℕ) → Number t n → NodesExact t n

-- every node of the table is a node of one of the sets
abbrev pub Weighed : Table → List (List (List ℕ)) → Type 0
Weighed t sets = (n : ℕ) → 2 ≤ n → Number t n → (s : List (List ℕ)) × In s sets × NodeOf (clauses t n) s

-- where the nodes of a table are of some sets, and the table has no room for one of these, the sets have more than 4,096 nodes together
abbrev pub FullCrowds : Type 0
FullCrowds = (t : Table) (sets : List (List (List ℕ))) (s : List (List ℕ)) → Weighed t sets → In s sets → Misses s t → Crowded 4096 sets
