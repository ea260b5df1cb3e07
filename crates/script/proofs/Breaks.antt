-- Texts cut at a byte, and where lines end.
use Rattle.std.proofs.Common.{◌≡◌, ℕ, ◌+◌, ◌^◌, ◌<◌, ◌≤◌, Bool, true, not, ◌&&◌, eqb, List, [], ◌∷◌, ◌++◌, length, get_or, take, drop, decimal, Some, None, sym, refl, ap, ◌∙◌, arith}
use Rattle.std.proofs.lemmas.List.{take_all, get_or-take}
use Rattle.std.proofs.lemmas.List.Recursion.{and_from_places}
use Rattle.std.proofs.lemmas.List.Folds.{length-prefix_len}
use Rattle.std.proofs.lemmas.List.Sums.{split_at_first, fails_before_first, passes_at_first}
use Rattle.std.specs.List.{position, position_or_len}
use Rattle.std.proofs.lemmas.Fmt.{digits_decimal}
use Rattle.std.proofs.lemmas.Bool.{and_parts, and_from, ne_eqb, eqb-true, eqb-false, not-true, not_from_false}
use Rattle.std.proofs.lemmas.Bool.Decides.{nat_tests}
use Rattle.words.specs.Numbers.{digit, all_digits}
use Rattle.words.proofs.Digits.{digits_on}
use Rattle.words.proofs.Decimal.{own}
use Rattle.script.specs.Reading.{lacks, unbroken}

pub lacks_append : (c : ℕ) (xs ys : List ℕ) → lacks c xs ≡ true → lacks c ys ≡ true → lacks c (xs ++ ys) ≡ true
lacks_append c [] ys p q = q
lacks_append c (x ∷ xs) ys p q =
    let r = and_parts (not (eqb x c)) (lacks c xs) p in
    and_from (not (eqb x c)) (lacks c (xs ++ ys)) r.0 (lacks_append c xs ys r.1 q)

not_at : (c x : ℕ) (b : Bool) → (not (eqb x c) && b) ≡ true → x ≡ c → ⊥
not_at c x b e = eqb-false x c (not-true (eqb x c) (and_parts (not (eqb x c)) b e).0)

-- a text with the byte in it does not lack it
pub not_lacking : (c : ℕ) (xs ys : List ℕ) → lacks c (xs ++ c ∷ ys) ≡ true → ⊥
not_lacking c [] ys e = not_at c c (lacks c ys) e refl
not_lacking c (x ∷ xs) ys e = not_lacking c xs ys (and_parts (not (eqb x c)) (lacks c (xs ++ c ∷ ys)) e).1

-- a text is cut in one way at the first such byte
pub same_cut : (c : ℕ) (xs ys us vs : List ℕ) → lacks c xs ≡ true → lacks c us ≡ true → xs ++ c ∷ ys ≡ us ++ c ∷ vs → (xs ≡ us) × (ys ≡ vs)
same_cut c [] ys [] vs p q e = (refl, cc)
same_cut c [] ys (u ∷ us) vs p q e = absurd (not_at c u (lacks c us) q (cc))
same_cut c (x ∷ xs) ys [] vs p q e = absurd (not_at c x (lacks c xs) p (cc))
same_cut c (x ∷ xs) ys (u ∷ us) vs p q e =
    let r = same_cut c xs ys us vs (and_parts (not (eqb x c)) (lacks c xs) p).1 (and_parts (not (eqb u c)) (lacks c us) q).1 (cc) in
    (cc r.0, r.1)

-- no digit is a line end
unbroken_digits : (xs : List ℕ) → all_digits xs ≡ true → unbroken xs ≡ true
unbroken_digits [] e = refl
unbroken_digits (x ∷ xs) e =
    let d = digits_on (x ∷ xs) 0 (omega arith) e in
    and_from (not (eqb x 10)) (unbroken xs) (not_from_false (eqb x 10) (ne_eqb x 10 (λ z. omega arith))) (unbroken_digits xs (and_parts (digit x) (all_digits xs) e).1)

pub unbroken_decimal : (n : ℕ) → n < 2 ^ 64 → unbroken (decimal n) ≡ true
unbroken_decimal n h = unbroken_digits (decimal n) (digits_decimal own n h)

lacking_before : (c : ℕ) (xs : List ℕ) → lacks c (take (position_or_len (λ b. eqb b c) xs) xs) ≡ true
lacking_before c xs =
    let n = position_or_len (λ b. eqb b c) xs in
    and_from_places (lacks c) (λ b. not (eqb b c)) refl (λ _ _. refl) (take n xs) 0
    (λ i h. let k = length-prefix_len (λ b. not (eqb b c)) xs in rw (get_or-take n xs i 0 (omega arith)) (not_from_false (eqb (get_or xs i 0) c) (fails_before_first (λ b. eqb b c) xs i 0 (omega arith))))

pub never_at : (c : ℕ) (xs : List ℕ) → position (λ b. eqb b c) xs ≡ None → lacks c xs ≡ true
never_at c xs e =
    let n = position_or_len (λ b. eqb b c) xs in
    let h : length xs ≤ n = grind (arith, nat_tests) in
    sym (ap (lacks c) (take_all n xs h)) ∙ lacking_before c xs

-- a text is cut at the first such byte
pub cut_at : (c : ℕ) (xs : List ℕ) (n : ℕ) → position (λ b. eqb b c) xs ≡ Some n → (lacks c (take n xs) ≡ true) × (xs ≡ take n xs ++ c ∷ drop (n + 1) xs)
cut_at c xs n e =
    let m = position_or_len (λ b. eqb b c) xs in
    let h : (n ≡ m) × (n < length xs) = grind (arith, nat_tests) in
    let s = split_at_first (λ b. eqb b c) xs 0 (omega arith) in
    let t : get_or xs m 0 ≡ c = eqb-true _ c (passes_at_first (λ b. eqb b c) xs 0 (omega arith)) in
    rw h.0 (lacking_before c xs, s ∙ ap (λ (b : ℕ). take m xs ++ b ∷ drop (m + 1) xs) t)
