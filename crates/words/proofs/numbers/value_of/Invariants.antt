use Rattle.std.proofs.Common.{◌≡◌, ◌^◌, ◌<◌, true, drop}
use Rattle.words.specs.Numbers.{all_digits, value_from}
use Rattle.words.proofs.numbers.value_of.Given as goal

abbrev pub invariant-loop-b : goal.invariant-loop-b
invariant-loop-b l = (value_from l.n (drop l.b-index l.digits) ≡ value_from 0 l.digits) × (all_digits (drop l.b-index l.digits) ≡ true) × (l.n < 2 ^ 64)
