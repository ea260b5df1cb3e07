-- A text has at least the bytes of its words, and one more for each: the space or line end behind it.
use Rattle.std.proofs.Common.{◌≡◌, ℕ, ◌+◌, ◌-◌, ◌<◌, ◌≤◌, Bool, List, [], ◌∷◌, ◌++◌, length, get_or, sym, refl, ap, ◌∙◌, arith, length-append}
use Rattle.std.specs.List.{AllByRecursion}
use Rattle.words.specs.Words.{kind, Token, words_of}
use Rattle.words.specs.Split.{Cut, Runs, Words}
use Rattle.words.specs.Split.Runs.{done, line_end, space, word}
use Rattle.words.specs.Split.Words.{comment, last_comment, blank, last_blank, body}
use Rattle.words.proofs.Openings.{are}
use Rattle.words.proofs.Places.{uncut}
use Rattle.grammar.specs.Grammar.{Ended}

-- a byte of a word, as the digit 0 is one
abbrev pub Inked : ℕ → Type 0
Inked b = kind b ≡ kind 48

abbrev pub cost : List Token → ℕ
cost [] = 0
cost (w ∷ ws) = length w.bytes + 1 + cost ws

pub cost_append : (us ws : List Token) → cost (us ++ ws) ≡ cost us + cost ws
cost_append [] ws = omega arith
cost_append (u ∷ us) ws = let ih = cost_append us ws in omega arith

-- the last byte; d if there is none
abbrev pub last : ℕ → List ℕ → ℕ
last d [] = d
last d (b ∷ bs) = last b bs

pub last_append : (d : ℕ) (xs ys : List ℕ) → last d (xs ++ ys) ≡ last (last d xs) ys
last_append d [] ys = refl
last_append d (x ∷ xs) ys = last_append x xs ys

at_last : (b : ℕ) (bs : List ℕ) → get_or (b ∷ bs) (length bs) 0 ≡ last b bs
at_last b [] = refl
at_last b (c ∷ bs) = at_last c bs

-- a text's last line has its line end if its last byte is one
pub last_ended : (text : List ℕ) → last 0 text ≡ 10 → Ended text
last_ended [] e = absurd (omega arith)
last_ended (b ∷ bs) e =
    let n : length (b ∷ bs) - 1 ≡ length bs = omega arith in
    ap (λ (i : ℕ). get_or (b ∷ bs) i 0) n ∙ at_last b bs ∙ e

ended_last : (d : ℕ) (text : List ℕ) → Ended text → last d text ≡ 10
ended_last d [] e = absurd (omega arith)
ended_last d (b ∷ bs) e =
    let n : length (b ∷ bs) - 1 ≡ length bs = omega arith in
    sym (at_last b bs) ∙ ap (λ (i : ℕ). get_or (b ∷ bs) i 0) (sym n) ∙ e

last_ink : (b : ℕ) (w : List ℕ) → Inked b → AllByRecursion Inked w → last b w ≡ 10 → ⊥
last_ink b [] k ink e = cc
last_ink b (c ∷ w) k ink e = last_ink c w ink.0 ink.1 e

-- a word is not the text's end
some_left : (d : ℕ) (w rest : List ℕ) → 0 < length w → AllByRecursion Inked w → last d (w ++ rest) ≡ 10 → 0 < length rest
some_left d [] rest some ink e = absurd (omega arith)
some_left d (b ∷ w) [] some ink e = absurd (last_ink b w ink.0 ink.1 (sym (last_append b w []) ∙ e))
some_left d (b ∷ w) (c ∷ rest) some ink e = omega arith

cost_runs : {off : ℕ} {f : Bool} {bs : List ℕ} {ws : List Token} → Runs off f bs ws → (d : ℕ) → last d bs ≡ 10 → (Cut bs → 0 < length bs → cost ws < length bs) × (cost ws ≤ length bs)
cost_runs done d e = (λ c l. l, omega arith)
cost_runs (line_end {off} {f} {b} k later) d e = let p = (cost_runs later b e).1 in (λ c l. omega arith, omega arith)
cost_runs (space {off} {f} {b} k later) d e = let p = (cost_runs later b e).1 in (λ c l. omega arith, omega arith)
cost_runs (word {off} {f} {w} {rest} some ink cut later) d e =
    let p = (cost_runs later (last d w) (sym (last_append d w rest) ∙ e)).0 cut (some_left d w rest some ink e) in
    (λ c. absurd (uncut w rest some ink c), omega (arith, length-append w rest))

cost_words : {off : ℕ} {bs : List ℕ} {ws : List Token} → Words off bs ws → (d : ℕ) → last d bs ≡ 10 → cost ws ≤ length bs
cost_words (comment line rest c later) d e = let p = cost_words later 10 (sym (last_append 99 line (10 ∷ rest)) ∙ e) in omega (arith, length-append line (10 ∷ rest))
cost_words (last_comment c) d e = omega arith
cost_words (blank spaces rest s later) d e = let p = cost_words later 10 (sym (last_append d spaces (10 ∷ rest)) ∙ e) in omega (arith, length-append spaces (10 ∷ rest))
cost_words (last_blank s) d e = omega arith
cost_words (body spaces b rest s ink other runs) d e = (cost_runs runs d e).1

pub text_cost : (text : List ℕ) → Ended text → cost (words_of text) ≤ length text
text_cost text e = cost_words (are text) 0 (ended_last 0 text e)
