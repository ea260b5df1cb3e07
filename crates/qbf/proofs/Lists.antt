-- Membership and distinctness in lists.
use Rattle.std.proofs.Common.{◌≡◌, ℕ, true, false, eqb, ◌⊎◌, List, [], ◌∷◌, ◌++◌, Decides, sym, refl, subst, inl, inr, ⊎_elim}
use Rattle.std.specs.List.{AllByRecursion}
use Rattle.std.proofs.lemmas.Bool.{both_ways, cases_Bool, eq-eqb, eqb-true, or_left, or_right, or_cases}
use Rattle.qbf.specs.Lists.{In, mem}

-- mem decides In

pub in_mem : (k : ℕ) (cs : List ℕ) → In k cs → mem k cs ≡ true
in_mem k [] i = elim i [ ]
in_mem k (c ∷ cs) (inl e) = or_left (eqb k c) _ (eq-eqb k c e)
in_mem k (c ∷ cs) (inr i) = or_right (eqb k c) _ (in_mem k cs i)

pub mem_in : (k : ℕ) (cs : List ℕ) → mem k cs ≡ true → In k cs
mem_in k [] e = absurd (both_ways false refl e)
mem_in k (c ∷ cs) e = ⊎_elim (λ h. inl (eqb-true k c h)) (λ h. inr (mem_in k cs h)) (or_cases (eqb k c) (mem k cs) e)

pub mem_decides : (k : ℕ) (cs : List ℕ) → Decides (mem k cs) (In k cs)
mem_decides k cs = (mem_in k cs, in_mem k cs)

pub mem_not_in : (k : ℕ) (cs : List ℕ) → mem k cs ≡ false → In k cs → ⊥
mem_not_in k cs e i = both_ways (mem k cs) e (in_mem k cs i)

pub cases_in : (k : ℕ) (cs : List ℕ) → In k cs ⊎ (In k cs → ⊥)
cases_in k cs = ⊎_elim (λ e. inl (mem_in k cs e)) (λ e. inr (mem_not_in k cs e)) (cases_Bool (mem k cs))

-- what stands in two lists put together

pub in_left : {A : Type 0} (x : A) (xs ys : List A) → In x xs → In x (xs ++ ys)
in_left x [] ys i = elim i [ ]
in_left x (y ∷ xs) ys (inl e) = inl e
in_left x (y ∷ xs) ys (inr i) = inr (in_left x xs ys i)

pub in_right : {A : Type 0} (x : A) (xs ys : List A) → In x ys → In x (xs ++ ys)
in_right x [] ys i = i
in_right x (y ∷ xs) ys i = inr (in_right x xs ys i)

pub in_cases : {A : Type 0} (x : A) (xs ys : List A) → In x (xs ++ ys) → In x xs ⊎ In x ys
in_cases x [] ys i = inr i
in_cases x (y ∷ xs) ys (inl e) = inl (inl e)
in_cases x (y ∷ xs) ys (inr i) = ⊎_elim (λ h. inl (inr h)) (λ h. inr h) (in_cases x xs ys i)

-- what holds of each element

pub all_in : {A : Type 0} (P : A → Type 0) (xs : List A) (x : A) → AllByRecursion P xs → In x xs → P x
all_in P [] x a i = elim i [ ]
all_in P (y ∷ xs) x a (inl e) = subst P (sym e) a.0
all_in P (y ∷ xs) x a (inr i) = all_in P xs x a.1 i

pub all_from_in : {A : Type 0} (P : A → Type 0) (xs : List A) → ((x : A) → In x xs → P x) → AllByRecursion P xs
all_from_in P [] h = tt
all_from_in P (x ∷ xs) h = (h x (inl refl), all_from_in P xs (λ y i. h y (inr i)))

pub apart_in : {A : Type 0} (x : A) (xs : List A) → AllByRecursion (λ y. x ≡ y → ⊥) xs → In x xs → ⊥
apart_in x xs a i = all_in (λ y. x ≡ y → ⊥) xs x a i refl

pub apart_from_in : {A : Type 0} (x : A) (xs : List A) → (In x xs → ⊥) → AllByRecursion (λ y. x ≡ y → ⊥) xs
apart_from_in {A} x xs n = all_from_in (λ y. x ≡ y → ⊥) xs (λ y i e. n (subst (λ (z : A). In z xs) (sym e) i))
