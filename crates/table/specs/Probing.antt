-- The index of the nodes, and the lookup of a node in it.
-- A lookup begins at a place that the node gives, its home, and goes on from place to place, behind the last to the first, until it comes to the record with the node's number or to a free one.
use Rattle.std.specs.Prelude.{◌≡◌, ℕ, ◌+◌, ◌-◌, ◌*◌, ◌%◌, ◌<◌, ◌≤◌, min, ◌⊎◌, List, [], ◌∷◌, length, slice_index_or}
use Rattle.table.specs.declared.node.Node.{Node}
use Rattle.table.specs.declared.index.Slot.{Slot}
use Rattle.table.specs.Places.{node_at}

-- what a read past the end would give
abbrev pub nothing : Slot
nothing = record { number = 0 }

abbrev pub slot_at : List Slot → ℕ → Slot
slot_at rs p = slice_index_or rs p nothing

-- the place where the lookup of a node begins
abbrev pub home : Node → ℕ
home x = (x.code * 5011 + x.with * 2609 + x.without * 3163) % 8192

-- how many steps it takes from one place to another, where the first comes behind the last
abbrev pub steps : ℕ → ℕ → ℕ
steps from to = (to + (8192 - from)) % 8192

-- n is the number of the node x
abbrev pub Numbers : List Node → ℕ → Node → Type 0
Numbers xs n x = (2 ≤ n) × (n < length xs + 2) × (node_at xs (n - 2) ≡ x)

-- the lookup of the node x ends at this record: it is free, or has the node's number
abbrev pub Ends : List Node → Node → Slot → Type 0
Ends xs x s = (s.number ≡ 0) ⊎ Numbers xs s.number x

-- the lookup of the node x ends at the place p, and at none before it
pub record Sought (rs : List Slot) (xs : List Node) (x : Node) (p : ℕ) : Type 0 where
  pub inside : p < 8192
  pub ends : Ends xs x (slot_at rs p)
  pub first : (q : ℕ) → q < 8192 → steps (home x) q < steps (home x) p → Ends xs x (slot_at rs q) → ⊥

-- how many records are in use
unfoldable pub used : List Slot → ℕ
used [] = 0
used (s ∷ rs) = min 1 s.number + used rs

-- no record is in use
pub record Idle (rs : List Slot) : Type 0 where
  pub free : (p : ℕ) → (slot_at rs p).number ≡ 0
  pub none : used rs ≡ 0

-- on the way from the home of the node x to the free place p stands no record with the number of x
pub record Strays (xs : List Node) (rs : List Slot) (x : Node) (p : ℕ) : Type 0 where
  pub inside : p < 8192
  pub free : (slot_at rs p).number ≡ 0
  pub passed : (q : ℕ) → q < 8192 → steps (home x) q < steps (home x) p → Numbers xs (slot_at rs q).number x → ⊥

-- of no node of the table is that so: its lookup meets its record before any free one
abbrev pub Findable : List Node → List Slot → Type 0
Findable xs rs = (k : ℕ) → k < length xs → (p : ℕ) → Strays xs rs (node_at xs k) p → ⊥

-- every node is found, and no more records are in use than there are nodes
pub record Indexed (xs : List Node) (rs : List Slot) : Type 0 where
  pub findable : Findable xs rs
  pub spare : used rs ≤ length xs
