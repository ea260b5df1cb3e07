-- Removal and distinctness in lists of codes.
use Rattle.std.proofs.Common.{◌≡◌, ℕ, zero, suc, ◌<◌, ◌≤◌, eqb, List, [], ◌∷◌, ◌++◌, length, sym, refl, ap, ◌∙◌, subst, inl, inr, ⊎_elim, arith}
use Rattle.std.specs.List.{AllByRecursion}
use Rattle.std.proofs.lemmas.Bool.{cases_eq, cond-true, cond-false, cond_both, eqb-true, eqb-false}
use Rattle.qbf.specs.Lists.{In, Distinct, without}
use Rattle.qbf.proofs.Lists.{all_in, apart_in, apart_from_in}

-- taking a code out

pub without_out : (k x : ℕ) (cs : List ℕ) → In k (without x cs) → In k cs × (k ≡ x → ⊥)
without_out k x [] i = elim i [ ]
without_out k x (c ∷ cs) i =
    cond_both (eqb x c) (without x cs) (c ∷ without x cs) (λ l. In k l → In k (c ∷ cs) × (k ≡ x → ⊥))
    (λ e j. let r = without_out k x cs j in (inr r.0, r.1))
    (λ e j. ⊎_elim (λ f. (inl f, λ g. eqb-false x c e (sym g ∙ f))) (λ h. let r = without_out k x cs h in (inr r.0, r.1)) j)
    i

pub without_in : (k x : ℕ) (cs : List ℕ) → In k cs → (k ≡ x → ⊥) → In k (without x cs)
without_in k x [] i n = elim i [ ]
without_in k x (c ∷ cs) i n =
    cond_both (eqb x c) (without x cs) (c ∷ without x cs) (In k)
    (λ e. without_in k x cs (⊎_elim (λ f. absurd (n (f ∙ sym (eqb-true x c e)))) (λ j. j) i) n)
    (λ e. ⊎_elim (λ f. inl f) (λ j. inr (without_in k x cs j n)) i)

pub all_without : (P : ℕ → Type 0) (x : ℕ) (cs : List ℕ) → AllByRecursion P cs → AllByRecursion P (without x cs)
all_without P x [] a = tt
all_without P x (c ∷ cs) a =
    cond_both (eqb x c) (without x cs) (c ∷ without x cs) (AllByRecursion P) (λ e. all_without P x cs a.1) (λ e. (a.0, all_without P x cs a.1))

pub without_distinct : (x : ℕ) (cs : List ℕ) → Distinct cs → Distinct (without x cs)
without_distinct x [] d = tt
without_distinct x (c ∷ cs) d =
    cond_both (eqb x c) (without x cs) (c ∷ without x cs) Distinct
    (λ e. without_distinct x cs d.1)
    (λ e. (all_without (λ y. c ≡ y → ⊥) x cs d.0, without_distinct x cs d.1))

pub without_apart : (x : ℕ) (cs : List ℕ) → AllByRecursion (λ y. x ≡ y → ⊥) (without x cs)
without_apart x cs = apart_from_in x (without x cs) (λ i. (without_out x x cs i).1 refl)

pub without_append : (x : ℕ) (xs ys : List ℕ) → without x (xs ++ ys) ≡ without x xs ++ without x ys
without_append x [] ys = refl
without_append x (c ∷ xs) ys =
    cond_both (eqb x c) (without x xs) (c ∷ without x xs) (λ l. without x (c ∷ xs ++ ys) ≡ l ++ without x ys)
    (λ e. cond-true (eqb x c) _ _ e ∙ without_append x xs ys)
    (λ e. cond-false (eqb x c) _ _ e ∙ ap (λ (q : List ℕ). c ∷ q) (without_append x xs ys))

pub length_without : (x : ℕ) (cs : List ℕ) → length (without x cs) ≤ length cs
length_without x [] = omega arith
length_without x (c ∷ cs) =
    let ih = length_without x cs in
    cond_both (eqb x c) (without x cs) (c ∷ without x cs) (λ l. length l ≤ length (c ∷ cs)) (λ e. omega arith) (λ e. omega arith)

pub length_without_in : (x : ℕ) (cs : List ℕ) → In x cs → length (without x cs) < length cs
length_without_in x [] i = elim i [ ]
length_without_in x (c ∷ cs) i =
    cond_both (eqb x c) (without x cs) (c ∷ without x cs) (λ l. length l < length (c ∷ cs))
    (λ e. let h = length_without x cs in omega arith)
    (λ e. let h = length_without_in x cs (⊎_elim (λ f. absurd (eqb-false x c e f)) (λ j. j) i) in omega arith)

-- distinct codes that all stand in a list are no more than the list has
pub length_inside : (xs ys : List ℕ) → Distinct xs → ((k : ℕ) → In k xs → In k ys) → length xs ≤ length ys
length_inside [] ys d h = omega arith
length_inside (x ∷ xs) ys d h =
    let ih = length_inside xs (without x ys) d.1 (λ k i. without_in k x ys (h k (inr i)) (λ e. apart_in x xs d.0 (subst (λ (q : ℕ). In q xs) e i))) in
    let l = length_without_in x ys (h x (inl refl)) in
    omega arith

-- the numbers below n
abbrev below : ℕ → List ℕ
below zero = []
below (suc n) = n ∷ below n

in_below : (n k : ℕ) → k < n → In k (below n)
in_below zero k h = absurd (omega arith)
in_below (suc n) k h = ⊎_elim (λ e. inl e) (λ e. inr (in_below n k (omega arith))) (cases_eq k n)

length_below : (n : ℕ) → length (below n) ≡ n
length_below zero = refl
length_below (suc n) = ap suc (length_below n)

-- distinct codes below n are at most n
pub distinct_length : (n : ℕ) (xs : List ℕ) → Distinct xs → AllByRecursion (λ c. c < n) xs → length xs ≤ n
distinct_length n xs d a =
    let h = length_inside xs (below n) d (λ k i. in_below n k (all_in (λ c. c < n) xs k a i)) in
    let e = length_below n in
    omega arith
