-- A variable by its value.
use Rattle.std.specs.Prelude.{ℕ, Bool, true, false}
use Rattle.qbf.specs.Literals.{positive, negative}

-- the literal of the variable x that is true where x has this value
abbrev pub literal : ℕ → Bool → ℕ
literal x true = positive x
literal x false = negative x
