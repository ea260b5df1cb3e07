-- A clause from its codes.
use Rattle.std.proofs.Common.{◌≡◌, ℕ, ◌<◌, ◌||◌, eqb, ltb, ◌⊎◌, List, [], ◌∷◌, refl, ap, ◌∙◌, inl, inr, arith}
use Rattle.std.specs.List.{AllByRecursion}
use Rattle.std.proofs.lemmas.Bool.Decides.{nat_tests}
use Rattle.std.proofs.lemmas.Bool.{cond_both}
use Rattle.std.proofs.ByRecursion.{All-weaker}
use Rattle.qbf.specs.Lists.{In, mem}
use Rattle.qbf.specs.Clauses.{Rising}
use Rattle.sets.specs.Ordered.{placed, clause_of}
use Rattle.sets.specs.Laws.{ClauseMembers}

all_placed : (P : ℕ → Type 0) (x : ℕ) (c : List ℕ) → P x → AllByRecursion P c → AllByRecursion P (placed x c)
all_placed P x [] p a = (p, tt)
all_placed P x (y ∷ c) p a =
    let ih = all_placed P x c p a.1 in
    cond_both (ltb x y) _ _ (AllByRecursion P) (λ _. (p, a)) (λ _. cond_both (eqb x y) _ _ (AllByRecursion P) (λ _. a) (λ _. (a.0, ih)))

rising_placed : (x : ℕ) (c : List ℕ) → Rising c → Rising (placed x c)
rising_placed x [] r = (tt, tt)
rising_placed x (y ∷ c) r =
    let ih = rising_placed x c r.1 in
    cond_both (ltb x y) _ _ Rising
    (λ e. let l : x < y = grind (arith, nat_tests) in ((l, All-weaker (λ z. y < z) (λ z. x < z) (λ z g. omega arith) c r.0), r))
    (λ e. cond_both (eqb x y) _ _ Rising (λ _. r) (λ f. (all_placed (λ z. y < z) x c (grind (arith, nat_tests)) r.0, ih)))

in_placed : (z x : ℕ) (c : List ℕ) → In z (placed x c) → (z ≡ x) ⊎ In z c
in_placed z x [] i = i
in_placed z x (y ∷ c) i = let ih = in_placed z x c in grind (arith, nat_tests)

placed_in : (z x : ℕ) (c : List ℕ) → (z ≡ x) ⊎ In z c → In z (placed x c)
placed_in z x [] i = i
placed_in z x (y ∷ c) i = let ih = placed_in z x c in grind (arith, nat_tests)

pub clause_members : ClauseMembers
clause_members [] = (tt, λ x. (λ i. i, λ i. i))
clause_members (y ∷ c) =
    let ih = clause_members c in (
      rising_placed y (clause_of c) ih.0,
      λ x. (
        λ i. elim (in_placed x y (clause_of c) i) [ inl e ↦ inl e | inr j ↦ inr ((ih.1 x).0 j) ],
        elim [ inl e ↦ placed_in x y (clause_of c) (inl e) | inr j ↦ placed_in x y (clause_of c) (inr ((ih.1 x).1 j)) ],
      ),
    )

pub rising_clause : (c : List ℕ) → Rising (clause_of c)
rising_clause c = (clause_members c).0

pub all_clause : (P : ℕ → Type 0) (c : List ℕ) → AllByRecursion P c → AllByRecursion P (clause_of c)
all_clause P [] a = tt
all_clause P (x ∷ c) a = all_placed P x (clause_of c) a.0 (all_clause P c a.1)

mem_placed : (z x : ℕ) (c : List ℕ) → mem z (placed x c) ≡ (eqb z x || mem z c)
mem_placed z x [] = refl
mem_placed z x (y ∷ c) = let ih = mem_placed z x c in grind (arith, nat_tests)

pub mem_clause : (z : ℕ) (c : List ℕ) → mem z (clause_of c) ≡ mem z c
mem_clause z [] = refl
mem_clause z (x ∷ c) = mem_placed z x (clause_of c) ∙ ap (λ b. eqb z x || b) (mem_clause z c)
