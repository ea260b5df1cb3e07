-- Setting a literal, by the four sets that it makes.
use Rattle.std.specs.Prelude.{ℕ, ◌↔◌, List}
use Rattle.std.specs.List.{AllByRecursion}
use Rattle.qbf.specs.Lists.{In}
use Rattle.qbf.specs.Clauses.{Canonical, assigned, setting}
use Rattle.qbf.specs.Value.{assign}

-- the set that a setting makes last has the clauses that setting the literal clause by clause gives
abbrev pub SettingSame : Type 0
SettingSame = (l : ℕ) (s : List (List ℕ)) (c : List ℕ) → In c (assigned l s) ↔ In c (assign l s)

-- all four sets that a setting makes are in the one form of a clause set, if the set was
abbrev pub SettingCanonical : Type 0
SettingCanonical = (l : ℕ) (s : List (List ℕ)) → Canonical s → AllByRecursion Canonical (setting l s)
