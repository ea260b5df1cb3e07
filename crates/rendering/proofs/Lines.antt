-- The words of a line, and of lines one after the other.
use Rattle.std.proofs.Common.{◌≡◌, ℕ, suc, ◌+◌, ◌%◌, ◌^◌, ◌<◌, ◌≤◌, Bool, true, false, eqb, List, [], ◌∷◌, ◌++◌, map, length, decimal, sym, refl, ap, ◌∙◌, subst, append_assoc, add-zero, arith, length-append}
use Rattle.std.specs.List.{flat_map, AllByRecursion}
use Rattle.std.proofs.lemmas.Fmt.{decimal_nonempty, decimal_by_steps, length-decimal-le}
use Rattle.std.proofs.ByRecursion.{All-push}
use Rattle.std.proofs.lemmas.Bool.{cond-false, cond_both, ne_eqb}
use Rattle.words.specs.declared.literals.Literal.{Literal}
use Rattle.words.specs.Numbers.{written}
use Rattle.words.specs.Words.{Token, scan}
use Rattle.words.specs.Words.Mode.{gap}
use Rattle.words.proofs.Splits.{one}
use Rattle.grammar.specs.Grammar.{zero_word, OnOneLine, OnNewLine}
use Rattle.rendering.specs.Render.{line}
use Rattle.rendering.proofs.Costs.{Inked, last, last_append}
use Rattle.rendering.proofs.Sums.{total}

-- bytes that can be a word
abbrev pub Spelled : List ℕ → Type 0
Spelled w = (0 < length w) × AllByRecursion Inked w

ink_digit : (n : ℕ) → n < 10 → Inked (48 + n)
ink_digit n h = cond-false (eqb (48 + n) 10) _ _ (ne_eqb (48 + n) 10 (λ e. omega arith)) ∙ cond-false (eqb (48 + n) 32) _ _ (ne_eqb (48 + n) 32 (λ e. omega arith))

pub number_spelled : (n : ℕ) → n ≤ 9999 → Spelled (decimal n)
number_spelled n h = (
  decimal_nonempty n (omega arith),
  decimal_by_steps (λ _ ds. AllByRecursion Inked ds) (λ m l. (ink_digit m l, tt)) (λ m ds l a. All-push Inked ds (48 + m % 10) a (ink_digit (m % 10) (omega arith))) n (omega arith),
)

pub literal_spelled : (l : Literal) → l.variable ≤ 9999 → Spelled (written l)
literal_spelled l h =
    let n = number_spelled l.variable h in
    cond_both l.negative _ _ Spelled (λ _. (omega arith, (refl, n.1))) (λ _. n)

-- a lower number has no more digits
fits : (n : ℕ) → n < 2 ^ 64 → n < 10 ^ length (decimal n)
fits n h =
    decimal_by_steps (λ m ds. m < 10 ^ length ds) (λ m l. omega arith)
    (λ m ds l a. let e : length (ds ++ (48 + m % 10) ∷ []) ≡ suc (length ds) = omega (arith, length-append ds ((48 + m % 10) ∷ [])) in subst (λ (j : ℕ). m < 10 ^ j) (sym e) (omega arith))
    n h

pub no_longer : (m n : ℕ) → m ≤ n → n ≤ 9999 → length (decimal m) ≤ length (decimal n)
no_longer m n l h =
    let f = fits n (omega arith) in
    length-decimal-le (length (decimal n)) m (decimal_nonempty n (omega arith)) (omega arith) (omega arith)

-- the words of a line at an offset
abbrev pub line_at : ℕ → Bool → List (List ℕ) → List ℕ → List Token
line_at off f [] end = record { at = off; bytes = end; first = f } ∷ []
line_at off f (w ∷ ws) end = record { at = off; bytes = w; first = f } ∷ line_at (off + length w + 1) false ws end

pub scan_line : (f : Bool) (off : ℕ) (ws : List (List ℕ)) (end rest : List ℕ) → AllByRecursion Spelled ws → Spelled end → scan (gap f) off (line ws end ++ rest) ≡ line_at off f ws end ++ scan (gap true) (off + length (line ws end)) rest
scan_line f off [] end rest a s =
    let n : off + length end + 1 ≡ off + length (end ++ 10 ∷ []) = omega (arith, length-append end (10 ∷ [])) in
    ap (scan (gap f) off) (append_assoc end (10 ∷ []) rest)
    ∙ one f off end (10 ∷ rest) s.0 s.1 (λ e. cc)
    ∙ ap (λ (o : ℕ). record { at = off; bytes = end; first = f } ∷ scan (gap true) o rest) n
scan_line f off (w ∷ ws) end rest a s =
    let n : off + length w + 1 + length (line ws end) ≡ off + length (w ++ 32 ∷ line ws end) = omega (arith, length-append w (32 ∷ line ws end)) in
    ap (scan (gap f) off) (append_assoc w (32 ∷ line ws end) rest)
    ∙ one f off w (32 ∷ (line ws end ++ rest)) a.0.0 a.0.1 (λ e. cc)
    ∙ ap (λ (l : List Token). record { at = off; bytes = w; first = f } ∷ l) (scan_line false (off + length w + 1) ws end rest a.1 s)
    ∙ ap (λ (o : ℕ). line_at off f (w ∷ ws) end ++ scan (gap true) o rest) n

pub length_line : (ws : List (List ℕ)) (end : List ℕ) → length (line ws end) ≡ total (λ w. length w + 1) ws + (length end + 1)
length_line [] end = omega (arith, length-append end (10 ∷ []))
length_line (w ∷ ws) end = let ih = length_line ws end in omega (arith, length-append w (32 ∷ line ws end))

-- a line of words that are made of numbers, with a 0 at its end
pub length_line_map : (g : ℕ → List ℕ) (ns : List ℕ) → length (line (map g ns) zero_word) ≡ total (λ n. length (g n) + 1) ns + 2
length_line_map g [] = refl
length_line_map g (n ∷ ns) = let ih = length_line_map g ns in omega (arith, length-append (g n) (32 ∷ line (map g ns) zero_word))

pub last_line : (d : ℕ) (ws : List (List ℕ)) (end : List ℕ) → last d (line ws end) ≡ 10
last_line d [] end = last_append d end (10 ∷ [])
last_line d (w ∷ ws) end = last_append d w (32 ∷ line ws end) ∙ last_line 32 ws end

not_first : (off : ℕ) (ws : List (List ℕ)) (end : List ℕ) → AllByRecursion (λ u. u.first ≡ false) (line_at off false ws end)
not_first off [] end = (refl, tt)
not_first off (w ∷ ws) end = (refl, not_first (off + length w + 1) ws end)

pub one_line : (off : ℕ) (ws : List (List ℕ)) (end : List ℕ) → OnOneLine (line_at off true ws end)
one_line off [] end = (refl, tt)
one_line off (w ∷ ws) end = (refl, not_first (off + length w + 1) ws end)

-- lines that end with a 0, one for each element of a list
abbrev pub lines : {X : Type 0} → (X → List (List ℕ)) → List X → List ℕ
lines g xs = flat_map (λ x. line (g x) zero_word) xs

abbrev pub lines_at : {X : Type 0} → (X → List (List ℕ)) → ℕ → List X → List Token
lines_at g off [] = []
lines_at g off (x ∷ xs) = line_at off true (g x) zero_word ++ lines_at g (off + length (line (g x) zero_word)) xs

zero_spelled : Spelled zero_word
zero_spelled = (omega arith, (refl, tt))

pub scan_lines : {X : Type 0} (g : X → List (List ℕ)) (off : ℕ) (xs : List X) (rest : List ℕ) → AllByRecursion (λ x. AllByRecursion Spelled (g x)) xs → scan (gap true) off (lines g xs ++ rest) ≡ lines_at g off xs ++ scan (gap true) (off + length (lines g xs)) rest
scan_lines g off [] rest a = ap (λ (o : ℕ). scan (gap true) o rest) (sym (add-zero off))
scan_lines g off (x ∷ xs) rest a =
    let l = line (g x) zero_word in
    let o = off + length l in
    let n : o + length (lines g xs) ≡ off + length (lines g (x ∷ xs)) = omega (arith, length-append l (lines g xs)) in
    ap (scan (gap true) off) (append_assoc l (lines g xs) rest)
    ∙ scan_line true off (g x) zero_word (lines g xs ++ rest) a.0 zero_spelled
    ∙ ap (λ (q : List Token). line_at off true (g x) zero_word ++ q) (scan_lines g o xs rest a.1)
    ∙ sym (append_assoc (line_at off true (g x) zero_word) (lines_at g o xs) (scan (gap true) (o + length (lines g xs)) rest))
    ∙ ap (λ (p : ℕ). lines_at g off (x ∷ xs) ++ scan (gap true) p rest) n

pub last_lines : {X : Type 0} (g : X → List (List ℕ)) (xs : List X) → last 10 (lines g xs) ≡ 10
last_lines g [] = refl
last_lines g (x ∷ xs) =
    last_append 10 (line (g x) zero_word) (lines g xs) ∙ ap (λ (d : ℕ). last d (lines g xs)) (last_line 10 (g x) zero_word) ∙ last_lines g xs

pub new_lines : {X : Type 0} (g : X → List (List ℕ)) (off : ℕ) (xs : List X) → OnNewLine (lines_at g off xs)
new_lines g off [] = tt
new_lines g off (x ∷ xs) = begins (g x)
  where
    begins : (ws : List (List ℕ)) → OnNewLine (line_at off true ws zero_word ++ lines_at g (off + length (line (g x) zero_word)) xs)
    begins [] = refl
    begins (w ∷ ws) = refl
