-- The variables of a prefix, and where it binds each.
use Rattle.std.specs.Prelude.{ℕ, List, map, Option, ◌==◌}
use Rattle.std.specs.List as lists
use Rattle.formula.specs.declared.prefix.Binding.{Binding}

-- the variables that are bound, outermost first
abbrev pub variables_of : List Binding → List ℕ
variables_of bs = map (λ b. b.variable) bs

-- the place of the variable's first binding, counted on from n
abbrev pub position_from : ℕ → ℕ → List Binding → Option ℕ
position_from n variable bs = lists.position_from (λ (b : Binding). b.variable == variable) n bs

-- the place of the variable in the prefix, counted from 0
abbrev pub position : ℕ → List Binding → Option ℕ
position variable bs = position_from 0 variable bs
