-- A set of a table, and its branches.
use Rattle.std.specs.Prelude.{◌≡◌, ℕ, ◌<◌, List}
use Rattle.sets.specs.Sides.{Over, joined}
use Rattle.table.specs.declared.set.Set.{Set}
use Rattle.table.specs.declared.set.reading.Branches.{Branches}
use Rattle.table.specs.Tables.{clauses}

-- the clauses of a set
abbrev pub clauses_of : Set → List (List ℕ)
clauses_of s = clauses s.table.now s.number

-- the set s has a non-empty clause, and b is its lowest code and its two sides
pub record Branched (s : Set) (b : Branches) : Type 0 where
  pub means : clauses_of s ≡ joined b.code (clauses_of b.with) (clauses_of b.without)
  pub with_over : Over b.code (clauses_of b.with)
  pub without_over : Over b.code (clauses_of b.without)
  pub filled : 0 < b.with.number
  pub with_less : b.with.number < s.number
  pub without_less : b.without.number < s.number
  pub coded : b.code < 512
