-- What follows from a text's formula alone, with the chooser of the lowest position.
use Rattle.std.specs.Prelude.{ℕ, Bool, List, [], ◌++◌}
use Rattle.qbf.specs.Value.{value}
use Rattle.qbf.specs.Walk.{Walked, bare}
use Rattle.formula.specs.Views.{Reading}
use Rattle.sets.specs.Formed.{formed, forming}
use Rattle.reduction.specs.Numbered.{quantified}
use Rattle.choosers.specs.Preferred.{first_picks}

-- the value of the stored clauses, as they were written, under the prefix: by full expansion
abbrev pub text_value : Reading → Bool
text_value f = value (quantified f.prefix) 0 f.clauses

-- the bare walk of their set
abbrev pub text_walk : Reading → Walked
text_walk f = bare first_picks (quantified f.prefix) (formed [] f.clauses)

-- all sets that loading the text makes, and those that the whole bare walk makes after it
abbrev pub loading_sets : Reading → List (List (List ℕ))
loading_sets f = forming [] f.clauses

abbrev pub all_sets : Reading → List (List (List ℕ))
all_sets f = loading_sets f ++ (text_walk f).made
