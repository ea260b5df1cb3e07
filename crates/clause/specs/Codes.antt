-- What a clause holds.
use Rattle.std.specs.Prelude.{ℕ, List}
use Rattle.arrays.specs.Lists.{items_of}
use Rattle.clause.specs.declared.Clause.{Clause}

-- the codes of a clause's literals
abbrev pub codes_of : Clause → List ℕ
codes_of c = items_of c.codes
