-- The order of clauses, and sets that are sorted by it.
use Rattle.std.proofs.Common.{◌≡◌, ℕ, ◌<◌, ◌≤◌, Bool, true, false, eqb, ◌⊎◌, List, [], ◌∷◌, ◌++◌, map, filter, sym, refl, inl, inr, arith}
use Rattle.std.specs.List.{AllByRecursion}
use Rattle.std.proofs.lemmas.Bool.Decides.{nat_tests}
use Rattle.std.proofs.lemmas.Bool.{cases_eq, cond_both}
use Rattle.std.proofs.ByRecursion.{all_kept_by, All-weaker}
use Rattle.qbf.specs.Lists.{In, mem, without}
use Rattle.qbf.specs.Clauses.{below, Rising, Sorted, Canonical, weave, union, taken_out}
use Rattle.qbf.specs.Nodes.{begins, with_side, without_side}
use Rattle.sets.proofs.Words.{without_absent, above_absent, all_in}

pub below_not_self : (c : List ℕ) → below c c ≡ false
below_not_self [] = refl
below_not_self (x ∷ c) = let ih = below_not_self c in grind (arith, nat_tests)

pub below_trans : (c d e : List ℕ) → below c d ≡ true → below d e ≡ true → below c e ≡ true
below_trans [] d e h k = grind (arith, nat_tests)
below_trans (x ∷ c) [] e h k = grind (arith, nat_tests)
below_trans (x ∷ c) (y ∷ d) [] h k = refl
below_trans (x ∷ c) (y ∷ d) (z ∷ e) h k = let ih = below_trans c d e in grind (arith, nat_tests)

pub below_one_way : (c d : List ℕ) → below c d ≡ true → below d c ≡ false
below_one_way [] d h = grind (arith, nat_tests)
below_one_way (x ∷ c) [] h = refl
below_one_way (x ∷ c) (y ∷ d) h = let ih = below_one_way c d in grind (arith, nat_tests)

pub below_neither : (c d : List ℕ) → below c d ≡ false → below d c ≡ false → c ≡ d
below_neither [] [] h k = refl
below_neither [] (y ∷ d) h k = grind (arith, nat_tests)
below_neither (x ∷ c) [] h k = grind (arith, nat_tests)
below_neither (x ∷ c) (y ∷ d) h k = let ih = below_neither c d in grind (arith, nat_tests)

-- filters
pub sorted_kept : (test : List ℕ → Bool) (s : List (List ℕ)) → Sorted s → Sorted (filter test s)
sorted_kept test [] h = tt
sorted_kept test (c ∷ s) h =
    let ih = sorted_kept test s h.1 in
    cond_both (test c) _ _ Sorted (λ e. (all_kept_by test (λ d. below c d ≡ true) s h.0, ih)) (λ e. ih)

-- taking out a literal that all have
pub below_all : (x : ℕ) (c d : List ℕ) → AllByRecursion (λ y. x < y) d → below (x ∷ c) d ≡ true
below_all x c [] a = refl
below_all x c (y ∷ d) a = grind (arith, nat_tests)

pub below_without : (m : ℕ) (c d : List ℕ) → Rising c → Rising d → mem m c ≡ true → mem m d ≡ true → below c d ≡ true → below (without m c) (without m d) ≡ true
below_without m [] d rc rd h k b = grind (arith, nat_tests)
below_without m (x ∷ c) [] rc rd h k b = grind (arith, nat_tests)
below_without m (x ∷ c) (y ∷ d) rc rd h k b =
    let ih = below_without m c d rc.1 rd.1 in
    let a1 : m ≤ x → mem m c ≡ false = λ l. above_absent m x c l rc.0 in
    let a2 : m ≤ y → mem m d ≡ false = λ l. above_absent m y d l rd.0 in
    let w1 = without_absent m c in
    let w2 = without_absent m d in
    let ba : x ≤ y → below (x ∷ without m c) d ≡ true = λ l. below_all x (without m c) d (All-weaker (λ z. y < z) (λ z. x < z) (λ z g. omega arith) d rd.0) in
    grind (arith, nat_tests)

pub taken_out_above : (m : ℕ) (c : List ℕ) (s : List (List ℕ)) → Rising c → mem m c ≡ true → AllByRecursion Rising s → AllByRecursion (λ d. below c d ≡ true) s → AllByRecursion (λ d. below (without m c) d ≡ true) (taken_out m s)
taken_out_above m c [] r e a b = tt
taken_out_above m c (d ∷ s) r e a b =
    let ih = taken_out_above m c s r e a.1 b.1 in
    cond_both (mem m d) _ _ (λ t. AllByRecursion (λ d. below (without m c) d ≡ true) (map (without m) t)) (λ f. (below_without m c d r a.0 e f b.0, ih)) (λ f. ih)

pub sorted_taken_out : (m : ℕ) (s : List (List ℕ)) → Canonical s → Sorted (taken_out m s)
sorted_taken_out m [] h = tt
sorted_taken_out m (c ∷ s) (r, o) =
    let ih = sorted_taken_out m s (r.1, o.1) in
    cond_both (mem m c) _ _ (λ t. Sorted (map (without m) t)) (λ e. (taken_out_above m c s r.0 e r.1 o.0, ih)) (λ e. ih)

-- the union
pub all_union : (P : List ℕ → Type 0) (s t : List (List ℕ)) → AllByRecursion P s → AllByRecursion P t → AllByRecursion P (union s t)
all_union P [] t h k = k
all_union P (c ∷ s) t h k = go (all_union P s) t k
  where
    go : ((t : List (List ℕ)) → AllByRecursion P s → AllByRecursion P t → AllByRecursion P (union s t)) → (t : List (List ℕ)) → AllByRecursion P t → AllByRecursion P (weave c (union s) t)
    go rec [] k = (h.0, rec [] h.1 tt)
    go rec (d ∷ t) k =
        cond_both (below c d) _ _ (AllByRecursion P) (λ _. (h.0, rec (d ∷ t) h.1 k)) (λ _.
        cond_both (below d c) _ _ (AllByRecursion P) (λ _. (k.0, go rec t k.1)) (λ _. (h.0, rec t h.1 k.1)))

all_below : (c d : List ℕ) (s : List (List ℕ)) → below c d ≡ true → AllByRecursion (λ e. below d e ≡ true) s → AllByRecursion (λ e. below c e ≡ true) s
all_below c d s h = All-weaker (λ e. below d e ≡ true) (λ e. below c e ≡ true) (λ e k. below_trans c d e h k) s

pub sorted_union : (s t : List (List ℕ)) → Sorted s → Sorted t → Sorted (union s t)
sorted_union [] t h k = k
sorted_union (c ∷ s) t h k = go (sorted_union s) t k
  where
    go : ((t : List (List ℕ)) → Sorted s → Sorted t → Sorted (union s t)) → (t : List (List ℕ)) → Sorted t → Sorted (weave c (union s) t)
    go rec [] k = (all_union (λ e. below c e ≡ true) s [] h.0 tt, rec [] h.1 tt)
    go rec (d ∷ t) k =
        cond_both (below c d) _ _ Sorted (λ e. (all_union (λ e. below c e ≡ true) s (d ∷ t) h.0 (e, all_below c d t e k.0), rec (d ∷ t) h.1 k)) (λ e.
        cond_both (below d c) _ _ Sorted (λ f. (all_union (λ e. below d e ≡ true) (c ∷ s) t (f, all_below d c s f h.0) k.0, go rec t k.1))
        (λ f. (all_union (λ e. below c e ≡ true) s t h.0 (rw (below_neither c d e f) k.0), rec t h.1 k.1)))

pub in_union : (x : List ℕ) (s t : List (List ℕ)) → In x (union s t) → In x s ⊎ In x t
in_union x [] t h = inr h
in_union x (c ∷ s) t h = go (in_union x s) t h
  where
    go : ((t : List (List ℕ)) → In x (union s t) → In x s ⊎ In x t) → (t : List (List ℕ)) → In x (weave c (union s) t) → In x (c ∷ s) ⊎ In x t
    go rec [] h = let r = rec [] in grind (arith, nat_tests)
    go rec (d ∷ t) h = let r = rec (d ∷ t) in let q = rec t in let i = go rec t in grind (arith, nat_tests)

pub union_left : (x : List ℕ) (s t : List (List ℕ)) → In x s → In x (union s t)
union_left x [] t h = absurd h
union_left x (c ∷ s) t h = go (union_left x s) t
  where
    go : ((t : List (List ℕ)) → In x s → In x (union s t)) → (t : List (List ℕ)) → In x (weave c (union s) t)
    go rec [] = let r = rec [] in grind (arith, nat_tests)
    go rec (d ∷ t) = let r = rec (d ∷ t) in let q = rec t in let i = go rec t in grind (arith, nat_tests)

pub union_right : (x : List ℕ) (s t : List (List ℕ)) → In x t → In x (union s t)
union_right x [] t h = h
union_right x (c ∷ s) t h = go (union_right x s) t h
  where
    go : ((t : List (List ℕ)) → In x t → In x (union s t)) → (t : List (List ℕ)) → In x t → In x (weave c (union s) t)
    go rec [] h = absurd h
    go rec (d ∷ t) h = let n = below_neither c d in let r = rec (d ∷ t) in let q = rec t in let i = go rec t in grind (arith, nat_tests)

-- one list for one set
pub sorted_same : (s t : List (List ℕ)) → Sorted s → Sorted t → ((x : List ℕ) → In x s → In x t) → ((x : List ℕ) → In x t → In x s) → s ≡ t
sorted_same [] [] h k a b = refl
sorted_same [] (d ∷ t) h k a b = absurd (b d (inl refl))
sorted_same (c ∷ s) [] h k a b = absurd (a c (inl refl))
sorted_same (c ∷ s) (d ∷ t) h k a b =
    let e : c ≡ d = heads (a c (inl refl)) (b d (inl refl)) in
    let ih = sorted_same s t h.1 k.1 (λ x i. tail x d t (a x (inr i)) (rw e at (all_in (λ z. below c z ≡ true) s x h.0 i))) (λ x i. tail x c s (b x (inr i)) (rw e (all_in (λ z. below d z ≡ true) t x k.0 i))) in
    cc
  where
    heads : In c (d ∷ t) → In d (c ∷ s) → c ≡ d
    heads (inl e) j = e
    heads (inr i) (inl e) = sym e
    heads (inr i) (inr j) =
        let p = all_in (λ z. below d z ≡ true) t c k.0 i in
        let q = all_in (λ z. below c z ≡ true) s d h.0 j in
        let r = below_one_way c d q in
        grind (arith, nat_tests)

    tail : (x y : List ℕ) (u : List (List ℕ)) → In x (y ∷ u) → below y x ≡ true → In x u
    tail x y u (inl e) b = let n = below_not_self x in let b' : below x x ≡ true = rw (← e) at b in grind (arith, nat_tests)
    tail x y u (inr i) b = i

-- the two sides at the lowest code
pub no_with : (k : ℕ) (c : List ℕ) (s : List (List ℕ)) → begins k c ≡ false → AllByRecursion (λ x. k ≤ x) c → AllByRecursion (λ d. below c d ≡ true) s → (with_side k s ≡ []) × (without_side k s ≡ s)
no_with k c [] n a b = (refl, refl)
no_with k [] (d ∷ s) n a b = grind (arith, nat_tests)
no_with k (y ∷ c) ([] ∷ s) n a b = let ih = no_with k (y ∷ c) s n a b.1 in grind (arith, nat_tests)
no_with k (y ∷ c) ((z ∷ d) ∷ s) n a b = let ih = no_with k (y ∷ c) s n a b.1 in grind (arith, nat_tests)

pub sides : (k : ℕ) (s : List (List ℕ)) → Sorted s → AllByRecursion (AllByRecursion (λ x. k ≤ x)) s → s ≡ map (λ c. k ∷ c) (with_side k s) ++ without_side k s
sides k [] h a = refl
sides k ([] ∷ s) h a = let n = no_with k [] s refl tt h.0 in grind (arith, nat_tests)
sides k ((x ∷ c) ∷ s) h a = let n = no_with k (x ∷ c) s in let ih = sides k s h.1 a.1 in
    elim (cases_eq k x) [ inl e ↦ let t : eqb k x ≡ true = grind (arith, nat_tests) in cc | inr e ↦ let f : eqb k x ≡ false = grind (arith, nat_tests) in let m = n f a.0 h.0 in cc ]
