-- Clauses by where each ends.
use Rattle.std.proofs.Common.{◌≡◌, ℕ, zero, suc, ◌+◌, ◌<◌, ◌≤◌, true, eqb, leb, List, [], ◌∷◌, ◌++◌, length, get_or, take, drop, sym, refl, ap, ◌∙◌, subst, arith}
use Rattle.std.proofs.Math.Seq.{drop-append_seam}
use Rattle.std.proofs.lemmas.List.{take-take, take_all, take-append-le, length-append}
use Rattle.std.proofs.lemmas.Slice.{between_is}
use Rattle.std.proofs.lemmas.Bool.{and_parts, and_from, leb-true, eqb-true, le-leb, eq-eqb}
use Rattle.std.specs.List.{between}
use Rattle.formula.specs.Ends.{climbs, clauses_from, beginning}

pub as_many : (s : ℕ) (es xs : List ℕ) → length (clauses_from s es xs) ≡ length es
as_many s [] xs = refl
as_many s (e ∷ es) xs = ap suc (as_many e es xs)

shifted : (s e : ℕ) (es : List ℕ) (i : ℕ) → beginning e es i ≡ beginning s (e ∷ es) (suc i)
shifted s e es zero = refl
shifted s e es (suc i) = refl

pub clause_at : (s : ℕ) (es xs : List ℕ) (i : ℕ) → i < length es → get_or (clauses_from s es xs) i [] ≡ between (beginning s es i) (get_or es i 0) xs
clause_at s [] xs i h = absurd (omega arith)
clause_at s (e ∷ es) xs zero h = refl
clause_at s (e ∷ es) xs (suc i) h =
    clause_at e es xs i (omega arith) ∙ ap (λ (b : ℕ). between b (get_or es i 0) xs) (shifted s e es i)

pub climbs_up : (s : ℕ) (es : List ℕ) (top : ℕ) → climbs s es top ≡ true → s ≤ top
climbs_up s [] top e = let z = eqb-true s top e in omega arith
climbs_up s (x ∷ es) top e =
    let p = and_parts (leb s x) (climbs x es top) e in
    let a = leb-true s x p.0 in
    let b = climbs_up x es top p.1 in
    omega arith

pub climbs_at : (s : ℕ) (es : List ℕ) (top i : ℕ) → climbs s es top ≡ true → i < length es → (beginning s es i ≤ get_or es i 0) × (get_or es i 0 ≤ top)
climbs_at s [] top i e h = absurd (omega arith)
climbs_at s (x ∷ es) top zero e h =
    let p = and_parts (leb s x) (climbs x es top) e in
    (leb-true s x p.0, climbs_up x es top p.1)
climbs_at s (x ∷ es) top (suc i) e h =
    let p = and_parts (leb s x) (climbs x es top) e in
    let r = climbs_at x es top i p.1 (omega arith) in
    (subst (λ (b : ℕ). b ≤ get_or es i 0) (shifted s x es i) r.0, r.1)

pub climbs_on : (s : ℕ) (es : List ℕ) (top x : ℕ) → climbs s es top ≡ true → top ≤ x → climbs s (es ++ x ∷ []) x ≡ true
climbs_on s [] top x e h = let z = eqb-true s top e in and_from (leb s x) (eqb x x) (le-leb s x (omega arith)) (eq-eqb x x refl)
climbs_on s (y ∷ es) top x e h =
    let p = and_parts (leb s y) (climbs y es top) e in
    and_from (leb s y) _ p.0 (climbs_on y es top x p.1 h)

-- one clause more, behind the others
pub clauses_push : (s : ℕ) (es : List ℕ) (top x : ℕ) (xs : List ℕ) → climbs s es top ≡ true → clauses_from s (es ++ x ∷ []) xs ≡ clauses_from s es xs ++ between top x xs ∷ []
clauses_push s [] top x xs e = ap (λ (a : ℕ). between a x xs ∷ []) (eqb-true s top e)
clauses_push s (y ∷ es) top x xs e =
    ap (λ (l : List (List ℕ)). between s y xs ∷ l) (clauses_push y es top x xs (and_parts (leb s y) (climbs y es top) e).1)

between_same : (a e top : ℕ) (xs ys : List ℕ) → e ≤ top → take top xs ≡ take top ys → between a e xs ≡ between a e ys
between_same a e top xs ys h p =
    between_is xs a e
    ∙ ap (λ (l : List ℕ). drop a l) (sym (take-take e top xs h) ∙ ap (take e) p ∙ take-take e top ys h)
    ∙ sym (between_is ys a e)

-- what stands above the top does not matter
pub clauses_same : (s : ℕ) (es : List ℕ) (top : ℕ) (xs ys : List ℕ) → climbs s es top ≡ true → take top xs ≡ take top ys → clauses_from s es xs ≡ clauses_from s es ys
clauses_same s [] top xs ys e p = refl
clauses_same s (x ∷ es) top xs ys e p =
    let q = (and_parts (leb s x) (climbs x es top) e).1 in
    let h = climbs_up x es top q in
    let a = between_same s x top xs ys h p in
    let b = clauses_same x es top xs ys q p in
    cc

-- so it may be cut off
pub clauses_cut : (s : ℕ) (es : List ℕ) (top : ℕ) (xs : List ℕ) → climbs s es top ≡ true → clauses_from s es (take top xs) ≡ clauses_from s es xs
clauses_cut s es top xs e = clauses_same s es top (take top xs) xs e (take-take top top xs (omega arith))

-- or be more
pub clauses_longer : (s : ℕ) (es : List ℕ) (top : ℕ) (xs ys : List ℕ) → climbs s es top ≡ true → top ≤ length xs → clauses_from s es (xs ++ ys) ≡ clauses_from s es xs
clauses_longer s es top xs ys e h = clauses_same s es top (xs ++ ys) xs e (take-append-le top xs ys h)

-- a clause more, with its literals
pub clauses_more : (s : ℕ) (es : List ℕ) (top x : ℕ) (xs codes : List ℕ) → climbs s es top ≡ true → top ≡ length xs → x ≡ top + length codes → clauses_from s (es ++ x ∷ []) (xs ++ codes) ≡ clauses_from s es xs ++ codes ∷ []
clauses_more s es top x xs codes e h i =
    let old = clauses_longer s es top xs codes e (omega arith) in
    let whole : take x (xs ++ codes) ≡ xs ++ codes = take_all x (xs ++ codes) (omega (arith, length-append xs codes)) in
    let new : between top x (xs ++ codes) ≡ codes = between_is (xs ++ codes) top x ∙ ap (drop top) whole ∙ ap (λ (k : ℕ). drop k (xs ++ codes)) h ∙ drop-append_seam xs codes in
    clauses_push s es top x (xs ++ codes) e ∙ (cc)
