-- What holds of a draft at each word, so that the arrays suffice.
use Rattle.std.specs.Prelude.{ℕ, ◌+◌, ◌<◌, ◌≤◌, List, length}
use Rattle.std.specs.List.{AllByRecursion, sum_by}
use Rattle.qbf.specs.Lists.{Distinct}
use Rattle.formula.specs.Positions.{variables_of}
use Rattle.grammar.specs.declared.place.Place.{Place}
use Rattle.grammar.specs.Places.{Draft, Counted}

-- how many literals the stored clauses have in all, with those of the clause that is begun
abbrev pub kept : Draft → ℕ
kept d = sum_by length d.stored + length d.begun

-- a clause as it is stored: codes below 512, none twice
abbrev pub Clean : List ℕ → Type 0
Clean c = AllByRecursion (λ k. k < 512) c × Distinct c

-- V and C are in range, at most the finished clauses are stored, the prefix binds variables from 1 to 256, none twice,
-- and the codes are those of such variables
pub record Fine (d : Draft) : Type 0 where
  pub variables : d.variables ≤ 256
  pub declared : d.declared ≤ 2048
  pub few : length d.stored ≤ d.finished
  pub bound : AllByRecursion (λ n. (0 < n) × (n ≤ 256)) (variables_of d.prefix)
  pub once : Distinct (variables_of d.prefix)
  pub begun : AllByRecursion (λ k. k < 512) d.begun
  pub stored : AllByRecursion Clean d.stored

-- and the clauses are counted
abbrev pub Sound : Place → Draft → Type 0
Sound p d = Fine d × Counted p d
