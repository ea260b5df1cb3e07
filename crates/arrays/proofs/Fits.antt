-- How long a list can be.
use Rattle.std.proofs.Common.{ℕ, ◌≤◌, length, arith}
use Rattle.std.proofs.lemmas.List.{length-take}
use Rattle.arrays.specs.declared.list.FixedList.{FixedList}
use Rattle.arrays.specs.Lists.{items_of}

-- no more items than there are places
pub items_fit : {T : Type 0} {N : ℕ} (l : FixedList T N) → length (items_of l) ≤ N
items_fit l = let f = l.fits in omega (arith, length-take l.len l.at)
