-- The candidates' positions are positions of the prefix.
use Rattle.std.proofs.Common.{◌≡◌, ℕ, suc, ◌+◌, ◌-◌, ◌<◌, ◌≤◌, Bool, cond, List, [], ◌∷◌, map, length, ◌∙◌, subst, inl, inr, arith}
use Rattle.std.proofs.lemmas.List.{length-map}
use Rattle.std.specs.List.{AllByRecursion}
use Rattle.std.proofs.lemmas.Bool.{cond_both}
use Rattle.arrays.proofs.Fits.{items_fit}
use Rattle.qbf.specs.declared.Quantifier.{Quantifier}
use Rattle.qbf.specs.declared.Candidate.{Candidate}
use Rattle.qbf.specs.Reduce.{same}
use Rattle.qbf.specs.Chooser.{Listed, Picks}
use Rattle.qbf.specs.Walk.{present, candidate, candidates}
use Rattle.theory.specs.Blocks.{neighbours, scanned}
use Rattle.theory.proofs.Scanning.{candidates_scanned}
use Rattle.formula.specs.declared.prefix.Prefix.{Prefix}
use Rattle.formula.specs.Views.{bindings_of}
use Rattle.reduction.specs.Numbered.{quantifiers_of}

-- the variables of a list are below a number
abbrev Under : ℕ → List ℕ → Type 0
Under top xs = AllByRecursion (λ x. x < top) xs

under_cond : (top : ℕ) (b : Bool) (xs ys : List ℕ) → Under top xs → Under top ys → Under top (cond b xs ys)
under_cond top b xs ys h k = cond_both b xs ys (Under top) (λ _. h) (λ _. k)

neighbours_under : (q : Quantifier) (prefix : List Quantifier) (v top : ℕ) (s : List (List ℕ)) → v + length prefix ≤ top → Under top (neighbours q prefix v s)
neighbours_under q [] v top s h = tt
neighbours_under q (r ∷ prefix) v top s h =
    let rest = neighbours_under q prefix (suc v) top s (omega arith) in
    let here : v < top = omega arith in
    under_cond top (same q r) _ [] (under_cond top (present v s) (v ∷ neighbours q prefix (suc v) s) (neighbours q prefix (suc v) s) (here, rest) rest) tt

scanned_under : (prefix : List Quantifier) (v top : ℕ) (s : List (List ℕ)) → v + length prefix ≤ top → Under top (scanned prefix v s)
scanned_under [] v top s h = tt
scanned_under (q ∷ prefix) v top s h =
    let here : v < top = omega arith in
    under_cond top (present v s) (v ∷ neighbours q prefix (suc v) s) (scanned prefix (suc v) s) (here, neighbours_under q prefix (suc v) top s (omega arith)) (scanned_under prefix (suc v) top s (omega arith))

listed_under : (s : List (List ℕ)) (xs : List ℕ) (top p : ℕ) → Under top xs → Listed p (map (candidate s) xs) → (1 ≤ p) × (p ≤ top)
listed_under s [] top p u l = absurd l
listed_under s (x ∷ xs) top p u (inl e) = let h = u.0 in (omega (arith, e), omega (arith, e, h))
listed_under s (x ∷ xs) top p u (inr l) = listed_under s xs top p u.1 l

length_quantifiers : (p : Prefix) → length (quantifiers_of p) ≤ 256
length_quantifiers p = let f = items_fit p.bindings in omega (arith, length-map (bindings_of p) (λ b. b.quantifier))

-- the position that is picked of the candidates is one of the prefix's
pub position_within : (pick : List Candidate → ℕ) → Picks pick → (p : Prefix) (s : List (List ℕ)) (cs : List Candidate) (position : ℕ) →
    cs ≡ candidates (quantifiers_of p) s → 0 < length cs → position ≡ pick cs → (1 ≤ position) × (position - 1 < 256)
position_within pick picks p s cs position e shown at =
    let q = quantifiers_of p in
    let listed : Listed (pick cs) (map (candidate s) (scanned q 0 s)) = subst (Listed (pick cs)) (e ∙ (candidates_scanned q s).0) (picks cs shown) in
    let within = listed_under s (scanned q 0 s) (length q) (pick cs) (scanned_under q 0 (length q) s (omega arith)) listed in
    (omega (arith, within.0, at), omega (arith, within.1, at, length_quantifiers p))
