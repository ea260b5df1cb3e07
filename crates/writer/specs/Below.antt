-- The clauses below a path.
use Rattle.std.specs.Prelude.{ℕ, ◌<◌, ◌≤◌, List, ◌++◌, length}
use Rattle.std.specs.List.{flat_map, AllByRecursion}
use Rattle.formula.specs.declared.prefix.Binding.{Binding}
use Rattle.rendering.specs.Render.{clause_line}

-- a path and the clauses below it: all codes are under n, and those of the clauses are no lower than the path is long
pub record Below (n : ℕ) (path : List ℕ) (s : List (List ℕ)) : Type 0 where
  pub path_bound : AllByRecursion (λ k. k < n) path
  pub bound : AllByRecursion (AllByRecursion (λ k. k < n)) s
  pub deep : AllByRecursion (AllByRecursion (λ k. length path ≤ k)) s

-- the lines of the clauses, each with the path's codes in front
abbrev pub lines_below : List Binding → List ℕ → List (List ℕ) → List ℕ
lines_below prefix path s = flat_map (λ c. clause_line prefix (path ++ c)) s
