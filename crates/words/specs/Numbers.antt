-- The numbers and literals that words spell.
use Rattle.std.specs.Prelude.{◌≡◌, ℕ, ◌+◌, ◌-◌, ◌*◌, ◌<◌, ◌≤◌, Bool, true, false, cond, not, ◌&&◌, ◌||◌, List, [], ◌∷◌, length, Some, None, Ok, Err, decimal, Option, Result, ◌==◌, nat_le, nat_lt}
use Rattle.std.specs.List.{list_all}
use Rattle.words.specs.declared.literals.Literal.{Literal}
use Rattle.words.specs.declared.numbers.NumberFault.{NumberFault}
use Rattle.words.specs.declared.numbers.NumberFault.TheVariants.{NotANumber, OutOfRange}

-- a byte from '0' to '9'
abbrev pub digit : ℕ → Bool
digit b = nat_le 48 b && nat_le b 57

-- digits alone
abbrev pub all_digits : List ℕ → Bool
all_digits bs = list_all digit bs

-- one or more digits, the first of several not 0
abbrev pub numeral : List ℕ → Bool
numeral [] = false
numeral (b ∷ []) = digit b
numeral (b ∷ c ∷ bs) = not (b == 48) && all_digits (b ∷ c ∷ bs)

-- the value of the digits, after digits of value n
abbrev pub value_from : ℕ → List ℕ → ℕ
value_from n [] = n
value_from n (b ∷ bs) = value_from (n * 10 + (b - 48)) bs

-- the decimal value of the digits
abbrev pub value_of : List ℕ → ℕ
value_of bs = value_from 0 bs

-- more than four digits, or above the greatest number that may stand there
abbrev pub number_out_of_range : ℕ → List ℕ → Bool
number_out_of_range max bs = nat_lt 4 (length bs) || nat_lt max (value_of bs)

-- what a word is as a number
abbrev pub read_number : ℕ → List ℕ → Result ℕ NumberFault
read_number max bs = cond (numeral bs) (cond (number_out_of_range max bs) (Err OutOfRange) (Ok (value_of bs))) (Err NotANumber)

-- the literal of a number without a minus: 0 is none, and ends a clause
abbrev pub unsigned : Result ℕ NumberFault → Result (Option Literal) NumberFault
unsigned (Ok n) = cond (n == 0) (Ok None) (Ok (Some (record { variable = n; negative = false })))
unsigned (Err e) = Err e

-- the literal of a number with a minus, which 0 may not have
abbrev pub negated : Result ℕ NumberFault → Result (Option Literal) NumberFault
negated (Ok n) = cond (n == 0) (Err NotANumber) (Ok (Some (record { variable = n; negative = true })))
negated (Err e) = Err e

-- what a word is as a literal; byte 45 is the minus
abbrev pub read_literal : ℕ → List ℕ → Result (Option Literal) NumberFault
read_literal max [] = Err NotANumber
read_literal max (b ∷ bs) = cond (b == 45) (negated (read_number max bs)) (unsigned (read_number max (b ∷ bs)))

-- how a literal is written
abbrev pub written : Literal → List ℕ
written l = cond l.negative (45 ∷ decimal l.variable) (decimal l.variable)

-- each follows from the other
abbrev pub Iff : Type 0 → Type 0 → Type 0
Iff P Q = (P → Q) × (Q → P)

-- what is read of a word is what it is written as
pub record Reads (max : ℕ) (bs : List ℕ) : Type 0 where
  -- a number is read of its decimal form, if it is not above the greatest
  pub number : (n : ℕ) → Iff (read_number max bs ≡ Ok n) ((bs ≡ decimal n) × (n ≤ max))
  -- a word is refused as no number exactly if it is no numeral
  pub fault : Iff (read_number max bs ≡ Err NotANumber) (numeral bs ≡ false)
  -- a literal is read of its written form, if its variable is from 1 to the greatest
  pub literal : (l : Literal) → Iff (read_literal max bs ≡ Ok (Some l)) ((bs ≡ written l) × (0 < l.variable) × (l.variable ≤ max))
  -- a clause ends at the word 0 alone
  pub ends : Iff (read_literal max bs ≡ Ok None) (bs ≡ decimal 0)

-- for every greatest number of at most four digits
abbrev pub NumbersStand : Type 0
NumbersStand = (max : ℕ) → max ≤ 9999 → (bs : List ℕ) → Reads max bs
