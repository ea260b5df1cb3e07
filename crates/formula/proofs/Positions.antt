-- Where a prefix binds a variable.
use Rattle.std.proofs.Common.{◌≡◌, ℕ, ◌+◌, ◌<◌, List, [], ◌∷◌, length, Some, arith}
use Rattle.std.proofs.lemmas.Bool.Decides.{nat_tests}
use Rattle.formula.specs.declared.prefix.Binding.{Binding}
use Rattle.formula.specs.Positions.{position_from}

-- a place that is found lies within the list
pub found_within : (n v : ℕ) (bs : List Binding) (p : ℕ) → position_from n v bs ≡ Some p → p < n + length bs
found_within n v [] p e = grind arith
found_within n v (b ∷ bs) p e = let ih = found_within (n + 1) v bs p in grind (arith, nat_tests)
