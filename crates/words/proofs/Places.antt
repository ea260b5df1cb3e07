-- Where the words of a text stand, and how many there can be.
use Rattle.std.proofs.Common.{◌≡◌, ℕ, ◌+◌, ◌*◌, ◌<◌, ◌≤◌, Bool, List, [], ◌∷◌, ◌++◌, length, take, drop, sym, refl, ap, ◌∙◌, append_assoc, arith, length-append}
use Rattle.std.proofs.lemmas.List.{take_at, drop_at}
use Rattle.std.specs.List.{AllByRecursion}
use Rattle.words.specs.Words.Kind.{Ink}
use Rattle.words.specs.Words.{kind, Token, words_of}
use Rattle.words.specs.Split.{Cut, Runs, Words, Rising, WordsStand}
use Rattle.words.specs.Split.Runs.{done, line_end, space, word}
use Rattle.words.specs.Split.Words.{comment, last_comment, blank, last_blank, body}
use Rattle.words.proofs.Openings.{are, only}

-- words that stand in the text, in order, from an offset on
record Placed (text : List ℕ) (from : ℕ) (ws : List Token) : Type 0 where
  rise : Rising from (length text) ws
  stand : AllByRecursion (λ w. take (length w.bytes) (drop w.at text) ≡ w.bytes) ws

-- a part of the text is passed
on : (text pre xs ys : List ℕ) → text ≡ pre ++ (xs ++ ys) → text ≡ (pre ++ xs) ++ ys
on text pre xs ys e = e ∙ sym (append_assoc pre xs ys)

placed_runs : {off : ℕ} {f : Bool} {bs : List ℕ} {ws : List Token} → Runs off f bs ws → (text pre : List ℕ) (from : ℕ) → text ≡ pre ++ bs → length pre ≡ off → from ≤ off → Placed text from ws
placed_runs done text pre from e l h = record { rise = tt; stand = tt }
placed_runs (line_end {off} {f} {b} {bs} k later) text pre from e l h = placed_runs later text (pre ++ b ∷ []) from (on text pre (b ∷ []) bs e) (omega (arith, length-append pre (b ∷ []))) (omega arith)
placed_runs (space {off} {f} {b} {bs} k later) text pre from e l h = placed_runs later text (pre ++ b ∷ []) from (on text pre (b ∷ []) bs e) (omega (arith, length-append pre (b ∷ []))) (omega arith)
placed_runs (word {off} {f} {w} {rest} some ink cut later) text pre from e l h =
    let p = placed_runs later text (pre ++ w) (off + length w) (on text pre w rest e) (omega (arith, length-append pre w)) (omega arith) in
    record {
      rise = (h, some, omega (arith, ap length e, length-append pre (w ++ rest), length-append w rest), p.rise);
      stand = (ap (λ (xs : List ℕ). take (length w) (drop off xs)) e ∙ ap (take (length w)) (drop_at pre (w ++ rest) off l) ∙ take_at w rest (length w) refl, p.stand);
    }

placed : {off : ℕ} {bs : List ℕ} {ws : List Token} → Words off bs ws → (text pre : List ℕ) (from : ℕ) → text ≡ pre ++ bs → length pre ≡ off → from ≤ off → Placed text from ws
placed (comment {off} line rest c later) text pre from e l h =
    placed later text ((pre ++ 99 ∷ line) ++ 10 ∷ []) from (on text (pre ++ 99 ∷ line) (10 ∷ []) rest (on text pre (99 ∷ line) (10 ∷ rest) e)) (omega (arith, length-append (pre ++ 99 ∷ line) (10 ∷ []), length-append pre (99 ∷ line))) (omega arith)
placed (last_comment c) text pre from e l h = record { rise = tt; stand = tt }
placed (blank {off} spaces rest s later) text pre from e l h =
    placed later text ((pre ++ spaces) ++ 10 ∷ []) from (on text (pre ++ spaces) (10 ∷ []) rest (on text pre spaces (10 ∷ rest) e)) (omega (arith, length-append (pre ++ spaces) (10 ∷ []), length-append pre spaces)) (omega arith)
placed (last_blank s) text pre from e l h = record { rise = tt; stand = tt }
placed (body spaces b rest s ink other runs) text pre from e l h = placed_runs runs text pre from e l h

pub words_stand_lem : WordsStand
words_stand_lem text =
    let p = placed (are text) text [] 0 refl refl (omega arith) in
    record { are = are text; only = λ ws h. only h; rise = p.rise; stand = p.stand }

pub uncut : (w rest : List ℕ) → 0 < length w → AllByRecursion (λ b. kind b ≡ Ink) w → Cut (w ++ rest) → ⊥
uncut [] rest some ink cut = absurd (omega arith)
uncut (b ∷ w) rest some ink cut = cut ink.0

-- between two words stands a byte of neither
few_runs : {off : ℕ} {f : Bool} {bs : List ℕ} {ws : List Token} → Runs off f bs ws → (Cut bs → 2 * length ws ≤ length bs) × (2 * length ws ≤ length bs + 1)
few_runs done = (λ _. omega arith, omega arith)
few_runs (line_end k later) = let p = (few_runs later).1 in (λ _. omega arith, omega arith)
few_runs (space k later) = let p = (few_runs later).1 in (λ _. omega arith, omega arith)
few_runs (word {off} {f} {w} {rest} some ink cut later) = let p = (few_runs later).0 cut in (λ c. absurd (uncut w rest some ink c), omega (arith, length-append w rest))

few : {off : ℕ} {bs : List ℕ} {ws : List Token} → Words off bs ws → 2 * length ws ≤ length bs + 1
few (comment line rest c later) = omega (arith, few later, length-append line (10 ∷ rest))
few (last_comment c) = omega arith
few (blank spaces rest s later) = omega (arith, few later, length-append spaces (10 ∷ rest))
few (last_blank s) = omega arith
few (body spaces b rest s ink other runs) = (few_runs runs).1

pub words_few : (text : List ℕ) → 2 * length (words_of text) ≤ length text + 1
words_few text = few (are text)
