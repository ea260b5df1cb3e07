-- The bare walk ends, and its verdict is the value.
use Rattle.std.proofs.Common.{◌≡◌, ℕ, zero, suc, ◌<◌, List, [], ◌∷◌, sym, refl, ap, ◌∙◌, arith}
use Rattle.std.proofs.lemmas.Bool.Decides.{nat_tests}
use Rattle.qbf.specs.declared.Quantifier.{Quantifier}
use Rattle.qbf.specs.declared.Candidate.{Candidate}
use Rattle.qbf.specs.Literals.{positive, negative}
use Rattle.qbf.specs.Chooser.{Picks}
use Rattle.qbf.specs.Clauses.{assigned}
use Rattle.qbf.specs.Value.{combine, value}
use Rattle.qbf.specs.Reduce.{Outcome, decided, left, reduce, size}
use Rattle.qbf.specs.Walk.{outermost, candidates, picked, Walked, after, split, side, branch, turn, walk_within, bare}
use Rattle.theory.proofs.Reduces.{reduced_to, reduces_keeps, reduces_size}
use Rattle.theory.proofs.Blocks.{no_candidates, picked_first, picked_falls}

-- a split goes by the walks of its two sides
branch_like : (pick : List Candidate → ℕ) (next other : List (List ℕ) → Walked) (q : Quantifier) (t : List (List ℕ)) (c : Candidate) (cs : List Candidate) →
    next (assigned (negative (picked pick (c ∷ cs))) t) ≡ other (assigned (negative (picked pick (c ∷ cs))) t) →
    next (assigned (positive (picked pick (c ∷ cs))) t) ≡ other (assigned (positive (picked pick (c ∷ cs))) t) →
    branch pick next q t (c ∷ cs) ≡ branch pick other q t (c ∷ cs)
branch_like pick next other q t c cs a b = cc

module _ (pick : List Candidate → ℕ) (picks : Picks pick) (prefix : List Quantifier) where
  -- more turns than literals change nothing
  enough : (n m : ℕ) (s : List (List ℕ)) → size s < n → size s < m → walk_within pick n prefix s ≡ walk_within pick m prefix s
  unfolding walk_within
  enough zero m s h k = absurd (omega arith)
  enough (suc n) zero s h k = absurd (omega arith)
  enough (suc n) (suc m) s h k = ap (after (reduce prefix s).made) (go (reduce prefix s).outcome refl (λ t. enough n m t))
    where
      go : (o : Outcome) → (reduce prefix s).outcome ≡ o → ((t : List (List ℕ)) → size t < n → size t < m → walk_within pick n prefix t ≡ walk_within pick m prefix t) →
          turn pick (walk_within pick n prefix) prefix o ≡ turn pick (walk_within pick m prefix) prefix o
      go (decided b) e ih = refl
      go (left t) e ih = at (candidates prefix t) refl
        where
          at : (cs : List Candidate) → candidates prefix t ≡ cs →
              branch pick (walk_within pick n prefix) (outermost prefix t).quantifier t cs ≡ branch pick (walk_within pick m prefix) (outermost prefix t).quantifier t cs
          at [] f = refl
          at (c ∷ cs) f =
              let z = reduces_size prefix (reduced_to prefix s (left t) e) in
              let w = picked_falls pick picks prefix t c cs f in
              branch_like pick (walk_within pick n prefix) (walk_within pick m prefix) (outermost prefix t).quantifier t c cs (ih (assigned (negative (picked pick (c ∷ cs))) t) (omega arith) (omega arith)) (ih (assigned (positive (picked pick (c ∷ cs))) t) (omega arith) (omega arith))

  -- the walk is one turn, with the whole walk of each side
  pub bare_unfolds : (s : List (List ℕ)) → bare pick prefix s ≡ after (reduce prefix s).made (turn pick (bare pick prefix) prefix (reduce prefix s).outcome)
  unfolding walk_within
  bare_unfolds s = ap (after (reduce prefix s).made) (go (reduce prefix s).outcome refl)
    where
      go : (o : Outcome) → (reduce prefix s).outcome ≡ o → turn pick (walk_within pick (size s) prefix) prefix o ≡ turn pick (bare pick prefix) prefix o
      go (decided b) e = refl
      go (left t) e = at (candidates prefix t) refl
        where
          at : (cs : List Candidate) → candidates prefix t ≡ cs →
              branch pick (walk_within pick (size s) prefix) (outermost prefix t).quantifier t cs ≡ branch pick (bare pick prefix) (outermost prefix t).quantifier t cs
          at [] f = refl
          at (c ∷ cs) f =
              let z = reduces_size prefix (reduced_to prefix s (left t) e) in
              let w = picked_falls pick picks prefix t c cs f in
              let x : List (List ℕ) = assigned (negative (picked pick (c ∷ cs))) t in
              let y : List (List ℕ) = assigned (positive (picked pick (c ∷ cs))) t in
              branch_like pick (walk_within pick (size s) prefix) (bare pick prefix) (outermost prefix t).quantifier t c cs (enough (size s) (suc (size x)) x (omega arith) (omega arith)) (enough (size s) (suc (size y)) y (omega arith) (omega arith))

  pub split_verdict : (q : Quantifier) (a b : Walked) → (split q a b).verdict ≡ combine q a.verdict b.verdict
  split_verdict q a b = grind (arith, nat_tests)

  -- its verdict is the value
  pub bare_right : (s : List (List ℕ)) → (bare pick prefix s).verdict ≡ value prefix 0 s
  bare_right s = right (suc (size s)) s (omega arith)
    where
      right : (n : ℕ) (s : List (List ℕ)) → size s < n → (bare pick prefix s).verdict ≡ value prefix 0 s
      right zero s h = absurd (omega arith)
      right (suc n) s h = ap (λ (w : Walked). w.verdict) (bare_unfolds s) ∙ go (reduce prefix s).outcome refl (λ t. right n t)
        where
          go : (o : Outcome) → (reduce prefix s).outcome ≡ o → ((t : List (List ℕ)) → size t < n → (bare pick prefix t).verdict ≡ value prefix 0 t) → (turn pick (bare pick prefix) prefix o).verdict ≡ value prefix 0 s
          go (decided b) e ih = sym (reduces_keeps prefix (reduced_to prefix s (decided b) e))
          go (left t) e ih = at (candidates prefix t) refl ∙ sym (reduces_keeps prefix (reduced_to prefix s (left t) e))
            where
              at : (cs : List Candidate) → candidates prefix t ≡ cs → (branch pick (bare pick prefix) (outermost prefix t).quantifier t cs).verdict ≡ value prefix 0 t
              at [] f = sym (no_candidates prefix t f)
              at (c ∷ cs) f =
                  let z = reduces_size prefix (reduced_to prefix s (left t) e) in
                  let w = picked_falls pick picks prefix t c cs f in
                  let x : List (List ℕ) = assigned (negative (picked pick (c ∷ cs))) t in
                  let y : List (List ℕ) = assigned (positive (picked pick (c ∷ cs))) t in
                  let a = ih x (omega arith) in
                  let b = ih y (omega arith) in
                  let p = picked_first pick picks prefix t c cs f in
                  split_verdict (outermost prefix t).quantifier (side (bare pick prefix) t (negative (picked pick (c ∷ cs)))) (side (bare pick prefix) t (positive (picked pick (c ∷ cs)))) ∙ (rw (a, b) (sym p))
