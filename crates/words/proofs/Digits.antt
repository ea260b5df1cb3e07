-- The bytes of a number or a literal, one on.
use Rattle.std.proofs.Common.{◌≡◌, ℕ, ◌+◌, ◌-◌, ◌*◌, ◌<◌, ◌≤◌, Bool, true, ◌&&◌, eqb, leb, List, [], ◌∷◌, length, get_or, drop, sym, refl, ◌∙◌, subst, arith}
use Rattle.std.proofs.lemmas.List.{at_drop_more}
use Rattle.std.proofs.lemmas.Bool.{cond-false, ne_eqb, and_parts, leb-true}
use Rattle.words.specs.Numbers.{digit, all_digits, value_from, read_number, read_literal, unsigned}

pub digit_step : (xs : List ℕ) (i : ℕ) (t : Bool) → i < length xs → digit (get_or xs i 0) ≡ t → all_digits (drop i xs) ≡ (t && all_digits (drop (i + 1) xs))
digit_step xs i t h e =
    subst (λ (u : Bool). all_digits (drop i xs) ≡ (u && all_digits (drop (i + 1) xs))) e (at_drop_more all_digits xs i 0 h)

pub digits_on : (xs : List ℕ) (i : ℕ) → i < length xs → all_digits (drop i xs) ≡ true → (48 ≤ get_or xs i 0) × (get_or xs i 0 ≤ 57) × (all_digits (drop (i + 1) xs) ≡ true)
digits_on xs i h e =
    let b = get_or xs i 0 in
    let p = and_parts (digit b) (all_digits (drop (i + 1) xs)) (sym (digit_step xs i (digit b) h refl) ∙ e) in
    let q = and_parts (leb 48 b) (leb b 57) p.0 in
    (leb-true 48 b q.0, leb-true b 57 q.1, p.1)

pub value_step : (n : ℕ) (xs : List ℕ) (i : ℕ) → i < length xs → value_from n (drop i xs) ≡ value_from (n * 10 + (get_or xs i 0 - 48)) (drop (i + 1) xs)
value_step n xs i h = at_drop_more (value_from n) xs i 0 h

-- further digits make no number less
pub value_least : (n : ℕ) (ds : List ℕ) → n ≤ value_from n ds
value_least n [] = omega arith
value_least n (d ∷ ds) = let h = value_least (n * 10 + (d - 48)) ds in omega arith

-- the digits up to one of them spell no more than all digits
pub value_so_far : (n : ℕ) (ds : List ℕ) (i v : ℕ) → i < length ds → value_from n (drop i ds) ≡ v → n * 10 + (get_or ds i 0 - 48) ≤ v
value_so_far n ds i v h e = let l = value_least (n * 10 + (get_or ds i 0 - 48)) (drop (i + 1) ds) in let s = value_step n ds i h in omega arith

pub plain_is : (max : ℕ) (xs : List ℕ) → 0 < length xs → (get_or xs 0 0 ≡ 45 → ⊥) → read_literal max xs ≡ unsigned (read_number max xs)
plain_is max [] h e = absurd (omega arith)
plain_is max (b ∷ bs) h e = cond-false (eqb b 45) _ _ (ne_eqb b 45 e)
