-- Where a broken rule becomes a fault, the place of a word that stands right is kept.
use Rattle.std.proofs.Common.{◌≡◌, Ok, Err, Result, is_ok, ap}
use Rattle.std.specs.Result.{MatchResult}
use Rattle.grammar.specs.declared.fault.ReadFault.{ReadFault}
use Rattle.grammar.specs.declared.fault.Rule.{Rule}
use Rattle.grammar.specs.declared.place.Place.{Place}

pub stood_right : (r : Result Place Rule) (s : Result Place ReadFault) (p : Place) (Q : Rule → Type 0) → MatchResult r (λ x. s ≡ Ok x) Q → is_ok s ≡ is_ok r → s ≡ Ok p → r ≡ Ok p
stood_right (Ok x) s p Q h v e = cc
stood_right (Err y) s p Q h v e = let here = ap is_ok e in cc
