-- What is read is what is written.
use Rattle.std.proofs.Common.{◌≡◌, ℕ, ◌^◌, ◌<◌, ◌≤◌, Bool, true, false, cond, not, eqb, List, [], ◌∷◌, length, get_or, Some, None, Ok, Err, decimal, Result, sym, refl, ap, ◌∙◌, ⊎_elim, arith, rules}
use Rattle.std.proofs.lemmas.Str.Parse.{IsNumeralModel, numerals_by_fold}
use Rattle.std.proofs.lemmas.Fmt.{decimal-digits_value, digits_decimal, digits_value-decimal, length-decimal-le, decimal_nonempty, first_decimal, decimal_digit}
use Rattle.std.proofs.lemmas.Bool.{false≢true, not-true, cond-true, cond-false, ne_eqb, and_parts, and_from, eqb-true, eqb-false, cases_lt, not_from_false}
use Rattle.std.proofs.lemmas.Bool.Decides.{nat_tests}
use Rattle.words.specs.declared.literals.Literal.{Literal}
use Rattle.words.specs.declared.numbers.NumberFault.{NumberFault}
use Rattle.words.specs.declared.numbers.NumberFault.TheVariants.{NotANumber}
use Rattle.words.specs.Numbers.{digit, all_digits, numeral, value_from, value_of, read_number, unsigned, negated, read_literal, written, Iff, NumbersStand}
use Rattle.words.proofs.Digits.{digits_on, plain_is}

pub own : IsNumeralModel (λ ds. all_digits ds ≡ true) (value_from 0)
own = numerals_by_fold _ (search rules) value_from (search rules)

pub numeral_parts : (bs : List ℕ) → numeral bs ≡ true → (all_digits bs ≡ true) × (0 < length bs) × (get_or bs 0 0 ≡ 48 → length bs ≡ 1)
numeral_parts [] e = absurd (false≢true e)
numeral_parts (b ∷ []) e = (and_from (digit b) true e refl, omega arith, λ _. refl)
numeral_parts (b ∷ c ∷ bs) e = let p = and_parts (not (eqb b 48)) (all_digits (b ∷ c ∷ bs)) e in (p.1, omega arith, λ z. absurd (eqb-false b 48 (not-true (eqb b 48) p.0) z))

numeral_from : (bs : List ℕ) → all_digits bs ≡ true → 0 < length bs → (get_or bs 0 0 ≡ 48 → length bs ≡ 1) → numeral bs ≡ true
numeral_from [] d l z = absurd (omega arith)
numeral_from (b ∷ []) d l z = (and_parts (digit b) true d).0
numeral_from (b ∷ c ∷ bs) d l z = and_from (not (eqb b 48)) (all_digits (b ∷ c ∷ bs)) (not_from_false (eqb b 48) (ne_eqb b 48 (λ e. let t = z e in omega arith))) d

pub numeral_decimal : (n : ℕ) → n < 2 ^ 64 → numeral (decimal n) ≡ true
numeral_decimal n h =
    numeral_from (decimal n) (digits_decimal own n (omega arith)) (decimal_nonempty n (omega arith))
    (λ z. ⊎_elim (λ p. let q = first_decimal n p (omega arith) in absurd (omega arith)) (λ p. ap length (decimal_digit n (omega arith))) (cases_lt 0 n))

read_ok : (max : ℕ) (bs : List ℕ) (n : ℕ) → numeral bs ≡ true → length bs ≤ 4 → value_of bs ≡ n → n ≤ max → read_number max bs ≡ Ok n
read_ok max bs n c l v h = grind (arith, nat_tests)

read_back : (max : ℕ) (bs : List ℕ) (n : ℕ) → read_number max bs ≡ Ok n → (numeral bs ≡ true) × (length bs ≤ 4) × (value_of bs ≡ n) × (n ≤ max)
read_back max bs n e = grind (arith, nat_tests)

-- a number that is read is written so, and the other way round
pub read_number_lem : (max : ℕ) → max ≤ 9999 → (bs : List ℕ) (n : ℕ) → read_number max bs ≡ Ok n → (bs ≡ decimal n) × (n ≤ max)
read_number_lem max top bs n e =
    let p = read_back max bs n e in
    let q = numeral_parts bs p.0 in
    (sym (decimal-digits_value own bs q.0 q.1 q.2 (omega arith)) ∙ ap decimal p.2, p.3)

pub number_read : (max : ℕ) → max ≤ 9999 → (n : ℕ) → n ≤ max → read_number max (decimal n) ≡ Ok n
number_read max top n h = read_ok max (decimal n) n (numeral_decimal n (omega arith)) (length-decimal-le 4 n (omega arith) (omega arith) (omega arith)) (digits_value-decimal own n (omega arith)) h

fault : (max : ℕ) (bs : List ℕ) → Iff (read_number max bs ≡ Err NotANumber) (numeral bs ≡ false)
fault max bs = (λ e. grind (arith, nat_tests), λ e. cond-false (numeral bs) _ _ e)

-- a written number begins with no minus
plain_decimal : (max n : ℕ) → n ≤ 9999 → read_literal max (decimal n) ≡ unsigned (read_number max (decimal n))
plain_decimal max n h =
    let some : 0 < length (decimal n) = decimal_nonempty n (omega arith) in
    let d = digits_on (decimal n) 0 some (digits_decimal own n (omega arith)) in
    plain_is max (decimal n) some (λ e. omega arith)

-- what a literal that is read is read from
negated_some : (r : Result ℕ NumberFault) (l : Literal) → negated r ≡ Ok (Some l) → (r ≡ Ok l.variable) × (l.negative ≡ true) × (0 < l.variable)
negated_some (Ok n) l e = grind (arith, nat_tests)
negated_some (Err f) l e = grind (arith, nat_tests)

unsigned_some : (r : Result ℕ NumberFault) (l : Literal) → unsigned r ≡ Ok (Some l) → (r ≡ Ok l.variable) × (l.negative ≡ false) × (0 < l.variable)
unsigned_some (Ok n) l e = grind (arith, nat_tests)
unsigned_some (Err f) l e = grind (arith, nat_tests)

negated_none : (r : Result ℕ NumberFault) → negated r ≡ Ok None → ⊥
negated_none (Ok n) e = grind (arith, nat_tests)
negated_none (Err f) e = grind (arith, nat_tests)

unsigned_none : (r : Result ℕ NumberFault) → unsigned r ≡ Ok None → r ≡ Ok 0
unsigned_none (Ok n) e = grind (arith, nat_tests)
unsigned_none (Err f) e = grind (arith, nat_tests)

-- the literal of a sign and a number, as it is written, is read back
signed : (max : ℕ) → max ≤ 9999 → (s : Bool) (n : ℕ) → 0 < n → n ≤ max → read_literal max (cond s (45 ∷ decimal n) (decimal n)) ≡ Ok (Some (record { variable = n; negative = s }))
signed max top true n some h = ap negated (number_read max top n h) ∙ cond-false (eqb n 0) _ _ (ne_eqb n 0 (λ e. omega arith))
signed max top false n some h = plain_decimal max n (omega arith) ∙ ap unsigned (number_read max top n h) ∙ cond-false (eqb n 0) _ _ (ne_eqb n 0 (λ e. omega arith))

read_literal_lem : (max : ℕ) → max ≤ 9999 → (bs : List ℕ) (l : Literal) → read_literal max bs ≡ Ok (Some l) → (bs ≡ written l) × (0 < l.variable) × (l.variable ≤ max)
read_literal_lem max top [] l e = grind (arith, nat_tests)
read_literal_lem max top (b ∷ bs) l e = on (eqb b 45) refl
  where
    on : (t : Bool) → eqb b 45 ≡ t → (b ∷ bs ≡ written l) × (0 < l.variable) × (l.variable ≤ max)
    on true t =
        let p = negated_some (read_number max bs) l (sym (cond-true (eqb b 45) _ _ t) ∙ e) in
        let q = read_number_lem max top bs l.variable p.0 in
        (ap (λ (c : ℕ). c ∷ bs) (eqb-true b 45 t) ∙ ap (λ (ds : List ℕ). 45 ∷ ds) q.0 ∙ sym (cond-true l.negative _ _ p.1), p.2, q.1)
    on false t =
        let p = unsigned_some (read_number max (b ∷ bs)) l (sym (cond-false (eqb b 45) _ _ t) ∙ e) in
        let q = read_number_lem max top (b ∷ bs) l.variable p.0 in
        (q.0 ∙ sym (cond-false l.negative _ _ p.1), p.2, q.1)

read_end : (max : ℕ) → max ≤ 9999 → (bs : List ℕ) → read_literal max bs ≡ Ok None → bs ≡ decimal 0
read_end max top [] e = grind (arith, nat_tests)
read_end max top (b ∷ bs) e = on (eqb b 45) refl
  where
    on : (t : Bool) → eqb b 45 ≡ t → b ∷ bs ≡ decimal 0
    on true t = absurd (negated_none (read_number max bs) (sym (cond-true (eqb b 45) _ _ t) ∙ e))
    on false t = (read_number_lem max top (b ∷ bs) 0 (unsigned_none (read_number max (b ∷ bs)) (sym (cond-false (eqb b 45) _ _ t) ∙ e))).0

pub stands : NumbersStand
stands max top bs = record {
  number = λ n. (read_number_lem max top bs n, λ h. ap (read_number max) h.0 ∙ number_read max top n h.1);
  fault = fault max bs;
  literal = λ l. (read_literal_lem max top bs l, λ h. ap (read_literal max) h.0 ∙ signed max top l.negative l.variable h.1 h.2);
  ends = (read_end max top bs, λ h. ap (read_literal max) h ∙ plain_decimal max 0 (omega arith) ∙ ap unsigned (number_read max top 0 (omega arith)));
}
