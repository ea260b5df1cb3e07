-- The values of digits, and the numbers that they spell.
use Rattle.std.proofs.Common.{◌≡◌, ℕ, ◌^◌, ◌<◌, true, List, Some, None, decimal, Option, sym, ap, ◌∙◌, arith, SomeIff, MatchOption}
use Rattle.std.proofs.lemmas.Fmt.{decimal-digits_value, digits_value-decimal}
use Rattle.words.specs.Numbers.{numeral, value_of}
use Rattle.words.proofs.Decimal.{own, numeral_parts}

-- a numeral is read by its value
pub read_by_value : (bs : List ℕ) (r : Option ℕ) → numeral bs ≡ true → SomeIff r (value_of bs < 2 ^ 64) (value_of bs) → MatchOption r ((n : ℕ) → n < 2 ^ 64 → bs ≡ decimal n → ⊥) (λ n. (n < 2 ^ 64) × (bs ≡ decimal n))
read_by_value bs None num h = λ n le e. let v = ap value_of e ∙ digits_value-decimal own n le in h (omega arith)
read_by_value bs (Some n) num h =
    let q = numeral_parts bs num in
    (omega (arith, h.0, h.1), sym (decimal-digits_value own bs q.0 q.1 q.2 h.0) ∙ ap decimal (sym h.1))
