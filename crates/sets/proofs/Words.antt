-- Literals in a clause, and elements of a list.
use Rattle.std.proofs.Common.{◌≡◌, ℕ, ◌<◌, ◌≤◌, Bool, true, false, eqb, List, [], ◌∷◌, map, filter, refl, ap, inl, inr, arith}
use Rattle.std.specs.List.{AllByRecursion}
use Rattle.std.proofs.lemmas.Bool.Decides.{nat_tests}
use Rattle.std.proofs.lemmas.Bool.{cond_both}
use Rattle.qbf.specs.Lists.{In, mem, without}
use Rattle.qbf.specs.Clauses.{Rising}
pub use Rattle.qbf.proofs.Lists.{mem_in, in_mem, mem_not_in as mem_not, all_in}

pub not_mem : (m : ℕ) (c : List ℕ) → (In m c → ⊥) → mem m c ≡ false
not_mem m [] n = refl
not_mem m (x ∷ c) n = let ih = not_mem m c (λ i. n (inr i)) in let o : m ≡ x → ⊥ = λ e. n (inl e) in grind (arith, nat_tests)

pub without_absent : (l : ℕ) (c : List ℕ) → mem l c ≡ false → without l c ≡ c
without_absent l [] e = refl
without_absent l (x ∷ c) e = let ih = without_absent l c in grind (arith, nat_tests)

-- a code below all others is not among them
pub above_absent : (m x : ℕ) (c : List ℕ) → m ≤ x → AllByRecursion (λ y. x < y) c → mem m c ≡ false
above_absent m x [] h a = refl
above_absent m x (y ∷ c) h a = let ih = above_absent m x c h a.1 in grind (arith, nat_tests)

pub all_without : (P : ℕ → Type 0) (m : ℕ) (c : List ℕ) → AllByRecursion P c → AllByRecursion P (without m c)
all_without P m [] h = tt
all_without P m (x ∷ c) h = let ih = all_without P m c h.1 in cond_both (eqb m x) _ _ (AllByRecursion P) (λ e. ih) (λ e. (h.0, ih))

pub rising_without : (m : ℕ) (c : List ℕ) → Rising c → Rising (without m c)
rising_without m [] h = tt
rising_without m (x ∷ c) h = let ih = rising_without m c h.1 in cond_both (eqb m x) _ _ Rising (λ e. ih) (λ e. (all_without (λ y. x < y) m c h.0, ih))

pub in_kept : {A : Type 0} (p : A → Bool) (x : A) (s : List A) → In x (filter p s) → In x s × (p x ≡ true)
in_kept p x [] h = absurd h
in_kept p x (y ∷ s) h = let ih = in_kept p x s in grind (arith, nat_tests)

pub kept_in : {A : Type 0} (p : A → Bool) (x : A) (s : List A) → In x s → p x ≡ true → In x (filter p s)
kept_in p x [] h e = absurd h
kept_in p x (y ∷ s) h e = let ih = kept_in p x s in grind (arith, nat_tests)

pub in_map : {A B : Type 0} (f : A → B) (x : B) (s : List A) → In x (map f s) → (y : A) × In y s × (x ≡ f y)
in_map f x [] h = absurd h
in_map f x (y ∷ s) (inl e) = (y, inl refl, e)
in_map f x (y ∷ s) (inr h) = let r = in_map f x s h in (r.0, inr r.1, r.2)

pub map_in : {A B : Type 0} (f : A → B) (y : A) (s : List A) → In y s → In (f y) (map f s)
map_in f y [] h = absurd h
map_in f y (z ∷ s) (inl e) = inl (ap f e)
map_in f y (z ∷ s) (inr h) = inr (map_in f y s h)
