-- Sums over clauses and sets: what is stored adds up to no more than what was written.
use Rattle.std.proofs.Common.{◌≡◌, ℕ, ◌+◌, ◌≤◌, eqb, ltb, List, [], ◌∷◌, map, refl, ap, arith}
use Rattle.std.proofs.lemmas.Bool.{cond_both}
use Rattle.qbf.specs.Lists.{without}
use Rattle.qbf.specs.Clauses.{below, union}
use Rattle.clause.specs.Once.{once}
use Rattle.grammar.specs.Stored.{store_all}
use Rattle.grammar.specs.Theorems.{LeavesOut}
use Rattle.grammar.specs.Theorems.LeavesOut.{done, keeps, skips}
use Rattle.grammar.proofs.Storing.{stored_stands_lem}
use Rattle.sets.specs.Ordered.{placed, clause_of}
use Rattle.sets.specs.Formed.{formed}

abbrev pub total : {A : Type 0} → (A → ℕ) → List A → ℕ
total f [] = 0
total f (x ∷ xs) = f x + total f xs

total_without : (g : ℕ → ℕ) (k : ℕ) (c : List ℕ) → total g (without k c) ≤ total g c
total_without g k [] = omega arith
total_without g k (x ∷ c) =
    let ih = total_without g k c in
    cond_both (eqb k x) _ _ (λ l. total g l ≤ total g (x ∷ c)) (λ _. omega arith) (λ _. omega arith)

total_once : (g : ℕ → ℕ) (c : List ℕ) → total g (once c) ≤ total g c
total_once g [] = omega arith
total_once g (x ∷ c) =
    let ih = total_once g c in
    let w = total_without g x (once c) in
    omega arith

total_placed : (g : ℕ → ℕ) (x : ℕ) (c : List ℕ) → total g (placed x c) ≤ g x + total g c
total_placed g x [] = omega arith
total_placed g x (y ∷ c) =
    let ih = total_placed g x c in
    cond_both (ltb x y) _ _ (λ l. total g l ≤ g x + total g (y ∷ c)) (λ _. omega arith) (λ _.
    cond_both (eqb x y) _ _ (λ l. total g l ≤ g x + total g (y ∷ c)) (λ _. omega arith) (λ _. omega arith))

total_clause : (g : ℕ → ℕ) (c : List ℕ) → total g (clause_of c) ≤ total g c
total_clause g [] = omega arith
total_clause g (x ∷ c) =
    let ih = total_clause g c in
    let p = total_placed g x (clause_of c) in
    omega arith

total_one : (f : List ℕ → ℕ) (c : List ℕ) (t : List (List ℕ)) → total f (union (c ∷ []) t) ≤ f c + total f t
total_one f c [] = omega arith
total_one f c (d ∷ t) =
    let ih = total_one f c t in
    cond_both (below c d) _ _ (λ l. total f l ≤ f c + total f (d ∷ t)) (λ _. omega arith) (λ _.
    cond_both (below d c) _ _ (λ l. total f l ≤ f c + total f (d ∷ t)) (λ _. omega arith) (λ _. omega arith))

total_formed : (f : List ℕ → ℕ) → ((c : List ℕ) → f (clause_of c) ≤ f c) → (s cs : List (List ℕ)) → total f (formed s cs) ≤ total f s + total f cs
total_formed f h s [] = omega arith
total_formed f h s (c ∷ cs) =
    let u = total_one f (clause_of c) s in
    let ih = total_formed f h (union (clause_of c ∷ []) s) cs in
    omega (arith, h c)

total_left : (f : List ℕ → ℕ) → ((c : List ℕ) → f (once c) ≤ f c) → {xs : List (List ℕ)} (ys : List (List ℕ)) → LeavesOut xs (map once ys) → total f xs ≤ total f ys
total_left f h ys l = less l ys refl
  where
    less : {xs zs : List (List ℕ)} → LeavesOut xs zs → (ys : List (List ℕ)) → zs ≡ map once ys → total f xs ≤ total f ys
    less done ys e = omega arith
    less (keeps l) [] e = cc
    less (keeps {x} l) (y ∷ ys) e = let ih = less l ys (cc) in let g : x ≡ once y = cc in omega (arith, h y, ap f g)
    less (skips l) [] e = cc
    less (skips l) (y ∷ ys) e = let ih = less l ys (cc) in omega arith

-- a sum over literals, and m more for each clause
pub total_stored : (g : ℕ → ℕ) (m : ℕ) (written : List (List ℕ)) → total (λ c. total g c + m) (formed [] (store_all [] written)) ≤ total (λ c. total g c + m) written
total_stored g m written =
    let f : List ℕ → ℕ = λ c. total g c + m in
    let a = total_formed f (λ c. let h = total_clause g c in omega arith) [] (store_all [] written) in
    let b = total_left f (λ c. let h = total_once g c in omega arith) written (stored_stands_lem written).in_order in
    omega arith
