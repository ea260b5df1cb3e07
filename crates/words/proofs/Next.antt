-- The next word: the bytes that are passed ahead of it, and its own.
use Rattle.std.proofs.Common.{◌≡◌, ℕ, ◌+◌, ◌<◌, ◌≤◌, Bool, true, false, eqb, ◌||◌, List, [], ◌∷◌, length, get_or, take, drop, add-zero, Some, None, sym, refl, ap, ◌∙◌, subst, arith}
use Rattle.std.proofs.Math.Bool.{or-true, or-false}
use Rattle.std.proofs.Math.Numerals.{one-add}
use Rattle.std.proofs.lemmas.List.{take-append-drop, drop-drop, drop_all}
use Rattle.std.proofs.lemmas.List.Folds.{length-prefix_len}
use Rattle.std.proofs.lemmas.List.Sums.{prefix_len-drop_yes, passes_at_first}
use Rattle.std.proofs.lemmas.Bool.{cond-true}
use Rattle.std.proofs.lemmas.Bool.Decides.{nat_tests}
use Rattle.std.specs.List.{AllByRecursion, list_any, position, position_or_len, prefix_len}
use Rattle.words.specs.Words.{kind, ink, scan}
use Rattle.words.specs.Words.Kind.{Ink}
use Rattle.words.specs.Words.Mode.{gap}
use Rattle.words.specs.Split.{Cut}
use Rattle.words.proofs.Bytes.{Byte, byte}
use Rattle.words.proofs.Bytes.Byte.{at_line_end, at_space, at_c, at_other}
use Rattle.words.proofs.Splits.{one}

is_ink : (b : ℕ) → kind b ≡ Ink → ink b ≡ true
is_ink b e = grind (arith, nat_tests)

abbrev Skips : Bool → ℕ → List ℕ → ℕ → Type 0
Skips f off xs n = scan (gap f) off xs ≡ scan (gap (f || list_any (λ b. eqb b 10) (take n xs))) (off + n) (drop n xs)

none_skipped : (f : Bool) (off b : ℕ) (bs : List ℕ) → kind b ≡ Ink → Skips f off (b ∷ bs) (position_or_len ink (b ∷ bs))
none_skipped f off b bs e = rw (is_ink b e, or-false, add-zero) refl

-- the bytes ahead of the next word are passed, and whether one of them ends a line is kept
skipped_on : (f : Bool) (off : ℕ) (xs : List ℕ) → Skips f off xs (position_or_len ink xs)
skipped_on f off [] = refl
skipped_on f off (b ∷ bs) = on (byte b) (skipped_on f (off + 1) bs) (skipped_on true (off + 1) bs)
  where
    on : {b : ℕ} → Byte b → Skips f (off + 1) bs (position_or_len ink bs) → Skips true (off + 1) bs (position_or_len ink bs) → Skips f off (b ∷ bs) (position_or_len ink (b ∷ bs))
    on at_line_end h e = subst (Skips f off (10 ∷ bs)) (sym (one-add (position_or_len ink bs))) (rw or-true (e ∙ ap (λ (n : ℕ). scan (gap true) n (drop (position_or_len ink bs) bs)) (omega arith)))
    on at_space h e = subst (Skips f off (32 ∷ bs)) (sym (one-add (position_or_len ink bs))) (h ∙ ap (λ (n : ℕ). scan (gap (f || list_any (λ b. eqb b 10) (take (position_or_len ink bs) bs))) n (drop (position_or_len ink bs) bs)) (omega arith))
    on at_c h e = none_skipped f off 99 bs refl
    on (at_other {b} k l c) h e = none_skipped f off b bs k

abbrev Inked : List ℕ → ℕ → Type 0
Inked xs n = AllByRecursion (λ b. kind b ≡ Ink) (take n xs) × Cut (drop n xs)

more_ink : (b : ℕ) (bs : List ℕ) → kind b ≡ Ink → Inked bs (prefix_len ink bs) → Inked (b ∷ bs) (prefix_len ink (b ∷ bs))
more_ink b bs e h = subst (Inked (b ∷ bs)) (sym (one-add (prefix_len ink bs)) ∙ sym (cond-true (ink b) _ _ (is_ink b e))) ((e, h.0), h.1)

-- a word and what follows it
inked : (xs : List ℕ) → Inked xs (prefix_len ink xs)
inked [] = (tt, tt)
inked (b ∷ bs) = on (byte b) (inked bs)
  where
    on : {b : ℕ} → Byte b → Inked bs (prefix_len ink bs) → Inked (b ∷ bs) (prefix_len ink (b ∷ bs))
    on at_line_end h = (tt, λ e. cc)
    on at_space h = (tt, λ e. cc)
    on at_c h = more_ink 99 bs refl h
    on (at_other {b} e l c) h = more_ink b bs e h

-- the word after the bytes that are passed
found_at : (f : Bool) (off k : ℕ) (ys : List ℕ) → k ≡ prefix_len ink ys → 0 < k → scan (gap f) off ys ≡ record { at = off; bytes = take k ys; first = f } ∷ scan (gap false) (off + length (take k ys)) (drop (length (take k ys)) ys)
found_at f off k ys e some =
    let p : Inked ys k = subst (Inked ys) (sym e) (inked ys) in
    let l : length (take k ys) ≡ k = ap (λ (n : ℕ). length (take n ys)) e ∙ length-prefix_len ink ys ∙ sym e in
    sym (ap (scan (gap f) off) (take-append-drop k ys)) ∙ one f off (take k ys) (drop k ys) (omega arith) p.0 p.1 ∙ ap (λ (n : ℕ). record { at = off; bytes = take k ys; first = f } ∷ scan (gap false) (off + length (take k ys)) (drop n ys)) (sym l)

-- where a word is left, it is the first of those that are; the arguments are named as the code has them
pub word_left : (f first : Bool) (text rest skipped word : List ℕ) (pos n k : ℕ) → rest ≡ drop pos text → position ink rest ≡ Some n → skipped ≡ take n rest → word ≡ drop n rest → k ≡ prefix_len ink word →
    first ≡ (f || list_any (λ b. eqb b 10) skipped) →
    scan (gap f) pos (drop pos text) ≡ record { at = pos + n; bytes = take k word; first = first } ∷ scan (gap false) (pos + n + length (take k word)) (drop (pos + n + length (take k word)) text)
word_left f first text rest skipped word pos n k r e s w l q =
    let h : (n ≡ position_or_len ink rest) × (n < length rest) = grind (arith, nat_tests) in
    let some : prefix_len ink (drop n rest) ≡ 1 + prefix_len ink (drop (n + 1) rest) = prefix_len-drop_yes ink rest n 0 h.1 (subst (λ (m : ℕ). ink (get_or rest m 0) ≡ true) (sym h.0) (passes_at_first ink rest 0 (omega arith))) in
    let g : scan (gap f) pos rest ≡ scan (gap first) (pos + n) word = subst (Skips f pos rest) (sym h.0) (skipped_on f pos rest) ∙ (λ i. scan (gap ((ap (λ (l : List ℕ). f || list_any (λ b. eqb b 10) l) (sym s) ∙ sym q) i)) (pos + n) (sym w i)) in
    let m = length (take k word) in
    let d : drop m word ≡ drop (pos + n + m) text = ap (drop m) (w ∙ ap (drop n) r ∙ drop-drop n pos text) ∙ drop-drop m (pos + n) text in
    ap (scan (gap f) pos) (sym r) ∙ g ∙ found_at first (pos + n) k word l (omega (arith, ap (prefix_len ink) w)) ∙ ap (λ (ys : List ℕ). record { at = pos + n; bytes = take k word; first = first } ∷ scan (gap false) (pos + n + m) ys) d

-- where none is, nothing is left
pub none_left : (f : Bool) (pos : ℕ) (xs rest : List ℕ) → rest ≡ xs → position ink rest ≡ None → scan (gap f) pos xs ≡ []
none_left f pos xs rest r e =
    let h : length rest ≤ position_or_len ink rest = grind (arith, nat_tests) in
    ap (scan (gap f) pos) (sym r) ∙ skipped_on f pos rest ∙ ap (scan (gap (f || list_any (λ b. eqb b 10) (take (position_or_len ink rest) rest))) (pos + position_or_len ink rest)) (drop_all (position_or_len ink rest) rest h)
