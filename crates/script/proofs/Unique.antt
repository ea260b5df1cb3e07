-- A text spells at most one call at its front.
use Rattle.std.proofs.Common.{◌≡◌, ℕ, ◌^◌, ◌<◌, ◌≤◌, List, ◌∷◌, ◌++◌, length, get_or, take, drop, sym, refl, ap, ◌∙◌, arith}
use Rattle.std.proofs.lemmas.Fmt.{decimal_injective}
use Rattle.std.proofs.lemmas.List.{length-append, take_at, drop_at}
use Rattle.script.specs.declared.calls.Call.{Call}
use Rattle.script.specs.declared.calls.Call.TheVariants.{Load, Decide, Write, Forget}
use Rattle.script.specs.Spelling.{space_bytes, line, body, spelled}
use Rattle.script.specs.Reading.{InRange}
use Rattle.script.specs.Meaning.{said, SpellingStands}
use Rattle.script.specs.Meaning.Said.{loads, decides, writes}
use Rattle.script.proofs.Breaks.{same_cut}
use Rattle.script.proofs.Spelled.{unbroken_line, spelled_on}

-- lines that begin with different letters are not the same
apart : (xs ys : List ℕ) → (get_or xs 0 0 ≡ get_or ys 0 0 → ⊥) → xs ≡ ys → ⊥
apart xs ys n e = n (ap (λ (bs : List ℕ). get_or bs 0 0) e)

same_front : (xs ys us vs : List ℕ) → length xs ≡ length us → xs ++ ys ≡ us ++ vs → (xs ≡ us) × (ys ≡ vs)
same_front xs ys us vs l e =
    (sym (take_at xs ys (length us) l) ∙ ap (take (length us)) e ∙ take_at us vs (length us) refl, sym (drop_at xs ys (length us) l) ∙ ap (drop (length us)) e ∙ drop_at us vs (length us) refl)

-- calls with the same line, whose bodies stand at the front of the same text
same_line : (c d : Call) (rest left : List ℕ) → InRange c → InRange d → length (body c) < 2 ^ 64 → length (body d) < 2 ^ 64 → line c ≡ line d → body c ++ rest ≡ body d ++ left → (said c ≡ said d) × (rest ≡ left)
same_line (Load t) (Load u) rest left r s h k e b =
    let f = same_front t.now rest u.now left (decimal_injective (length t.now) (length u.now) h k (cc)) b in
    (ap loads f.0, f.1)
same_line (Decide n) (Decide m) rest left r s h k e b = (ap decides (decimal_injective n m (omega arith) (omega arith) (cc)), b)
same_line (Write n) (Write m) rest left r s h k e b = (ap writes (decimal_injective (space_bytes n) (space_bytes m) (omega arith) (omega arith) (cc)), b)
same_line Forget Forget rest left r s h k e b = (refl, b)
same_line (Load t) (Decide m) rest left r s h k e b = absurd (apart _ _ (λ z. omega arith) e)
same_line (Load t) (Write m) rest left r s h k e b = absurd (apart _ _ (λ z. omega arith) e)
same_line (Load t) Forget rest left r s h k e b = absurd (apart _ _ (λ z. omega arith) e)
same_line (Decide n) (Load u) rest left r s h k e b = absurd (apart _ _ (λ z. omega arith) e)
same_line (Decide n) (Write m) rest left r s h k e b = absurd (apart _ _ (λ z. omega arith) e)
same_line (Decide n) Forget rest left r s h k e b = absurd (apart _ _ (λ z. omega arith) e)
same_line (Write n) (Load u) rest left r s h k e b = absurd (apart _ _ (λ z. omega arith) e)
same_line (Write n) (Decide m) rest left r s h k e b = absurd (apart _ _ (λ z. omega arith) e)
same_line (Write n) Forget rest left r s h k e b = absurd (apart _ _ (λ z. omega arith) e)
same_line Forget (Load u) rest left r s h k e b = absurd (apart _ _ (λ z. omega arith) e)
same_line Forget (Decide m) rest left r s h k e b = absurd (apart _ _ (λ z. omega arith) e)
same_line Forget (Write m) rest left r s h k e b = absurd (apart _ _ (λ z. omega arith) e)

body_fits : (c : Call) (rest : List ℕ) → length (body c) ≤ length (spelled c ++ rest)
body_fits c rest =
    let l = length-append (spelled c) rest in
    let m = length-append (line c) (10 ∷ body c) in
    omega arith

pub stands : SpellingStands
stands c d rest left r s h e =
    let p = body_fits c rest in
    let q = body_fits d left in
    let l = ap length e in
    let cut = same_cut 10 (line c) (body c ++ rest) (line d) (body d ++ left) (unbroken_line c r (omega arith)) (unbroken_line d s (omega arith)) (sym (spelled_on c rest) ∙ e ∙ spelled_on d left) in
    same_line c d rest left r s (omega arith) (omega arith) cut.0 cut.1
