-- What a list in a fixed array stands for.
use Rattle.std.specs.Prelude.{ℕ, List, take}
use Rattle.arrays.specs.declared.list.FixedList.{FixedList}

-- the items in use, in their order
abbrev pub items_of : {T : Type 0} {N : ℕ} → FixedList T N → List T
items_of l = take l.len l.at
