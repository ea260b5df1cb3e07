-- Literals by their codes. Variables are counted from 0 in prefix order, so that the variable at position p is the variable p - 1.
use Rattle.std.specs.Prelude.{ℕ, ◌+◌, ◌-◌, ◌*◌, ◌%◌}

-- the code of a variable's positive literal
abbrev pub positive : ℕ → ℕ
positive v = 2 * v

-- the code of its negative literal
abbrev pub negative : ℕ → ℕ
negative v = 2 * v + 1

-- the code of the same variable with the other sign
abbrev pub complement : ℕ → ℕ
complement l = l + 1 - 2 * (l % 2)
