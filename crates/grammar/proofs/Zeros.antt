-- The only numeral of value 0 is the word 0.
use Rattle.std.proofs.Common.{◌≡◌, ℕ, ◌+◌, ◌-◌, ◌*◌, true, false, not, eqb, leb, List, [], ◌∷◌, ap, ◌∙◌, arith}
use Rattle.std.proofs.lemmas.Bool.{and_parts, leb-true, eqb-false, not-true, le-ltb}
use Rattle.std.proofs.lemmas.Bool.Decides.{nat_tests}
use Rattle.words.specs.Numbers.{digit, all_digits, numeral, value_of, number_out_of_range}
use Rattle.words.proofs.Digits.{value_least}
use Rattle.grammar.specs.Grammar.{zero_word}

pub zero_only : (bs : List ℕ) → numeral bs ≡ true → value_of bs ≡ 0 → bs ≡ zero_word
zero_only [] n z = absurd (grind (arith, nat_tests))
zero_only (b ∷ []) n z =
    let p = and_parts (leb 48 b) (leb b 57) n in
    let low = leb-true 48 b p.0 in
    let same : b ≡ 48 = omega arith in
    ap (λ (x : ℕ). x ∷ []) same
zero_only (b ∷ c ∷ bs) n z =
    let p = and_parts (not (eqb b 48)) (all_digits (b ∷ c ∷ bs)) n in
    let q = and_parts (digit b) (all_digits (c ∷ bs)) p.1 in
    let low = leb-true 48 b (and_parts (leb 48 b) (leb b 57) q.0).0 in
    let not48 = eqb-false b 48 (not-true (eqb b 48) p.0) in
    let grows = value_least (0 * 10 + (b - 48)) (c ∷ bs) in
    absurd (omega arith)

pub zero_in_range : (v : ℕ) (bs : List ℕ) → bs ≡ zero_word → number_out_of_range v bs ≡ false
zero_in_range v bs e = ap (number_out_of_range v) e ∙ le-ltb v 0 (omega arith)
