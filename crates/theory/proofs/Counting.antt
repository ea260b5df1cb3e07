-- The nodes of sets, as a list.
use Rattle.std.proofs.Common.{◌≡◌, ℕ, zero, suc, ◌<◌, ◌≤◌, Bool, eqb, ◌⊎◌, ◌↔◌, List, [], ◌∷◌, ◌++◌, length, Decides, sym, refl, ap, ◌∙◌, inl, inr, arith}
use Rattle.std.specs.List.{AllByRecursion}
use Rattle.std.proofs.lemmas.Bool.Decides.{nat_tests, Decides-eqb, Decides-or, not_from_Decides}
use Rattle.std.proofs.lemmas.Bool.{cond_both}
use Rattle.qbf.specs.Lists.{In, Distinct}
use Rattle.qbf.specs.Reduce.{size}
use Rattle.qbf.specs.Nodes.{with_side, without_side, Node, node_itself, node_with, node_without, Crowded}
use Rattle.qbf.specs.NodeList.{equal_by, same_set, listed, once, nodes_within, nodes_of_all}
use Rattle.sets.proofs.Words.{all_in}
use Rattle.theory.specs.Running.{NodesListed}
use Rattle.theory.proofs.Tables.{in_append, in_append_left, in_append_right}

-- pigeons
taken : {A : Type 0} (x : A) (ys : List A) → In x ys → (zs : List A) × (length ys ≡ suc (length zs)) × ((y : A) → In y ys → (y ≡ x) ⊎ In y zs)
taken x [] h = absurd h
taken x (y ∷ ys) (inl e) = (ys, refl, λ z. elim [ inl f ↦ inl (f ∙ sym e) | inr i ↦ inr i ])
taken x (y ∷ ys) (inr h) =
    let r = taken x ys h in
    (y ∷ r.0, ap suc r.1, λ z. elim [ inl f ↦ inr (inl f) | inr i ↦ elim (r.2 z i) [ inl e ↦ inl e | inr j ↦ inr (inr j) ] ])

pub pigeons : {A : Type 0} (xs ys : List A) → Distinct xs → ((x : A) → In x xs → In x ys) → length xs ≤ length ys
pigeons [] ys d h = omega arith
pigeons (x ∷ xs) ys d h =
    let r = taken x ys (h x (inl refl)) in
    let ih = pigeons xs r.0 d.1 (λ y i. elim (r.2 y (h y (inr i))) [ inl e ↦ absurd (all_in (λ z. x ≡ z → ⊥) xs y d.0 i (sym e)) | inr j ↦ j ]) in
    let e = r.1 in
    omega arith

-- equal sets
pub decides_equal : {A : Type 0} (eq : A → A → Bool) → ((x y : A) → Decides (eq x y) (x ≡ y)) → (xs ys : List A) → Decides (equal_by eq xs ys) (xs ≡ ys)
decides_equal eq h [] [] = (λ _. refl, λ _. refl)
decides_equal eq h [] (y ∷ ys) = grind (arith, nat_tests)
decides_equal eq h (x ∷ xs) [] = grind (arith, nat_tests)
decides_equal eq h (x ∷ xs) (y ∷ ys) = let ih = decides_equal eq h xs ys in let d = h x y in grind (arith, nat_tests)

pub decides_same : (s t : List (List ℕ)) → Decides (same_set s t) (s ≡ t)
decides_same = decides_equal (equal_by eqb) (decides_equal eqb Decides-eqb)

pub listed_in : (x : List (List ℕ)) (ys : List (List (List ℕ))) → Decides (listed x ys) (In x ys)
listed_in x [] = grind (arith, nat_tests)
listed_in x (y ∷ ys) = let ih = listed_in x ys in let d = decides_same x y in Decides-or (same_set x y) (listed x ys) d ih

pub once_in : (x : List (List ℕ)) (ys : List (List (List ℕ))) → (In x (once ys) → In x ys) × (In x ys → In x (once ys))
once_in x [] = (λ h. h, λ h. h)
once_in x (y ∷ ys) = let ih = once_in x ys in let d = listed_in y ys in (grind (arith, nat_tests), grind (arith, nat_tests))

pub all_from_in : {A : Type 0} (P : A → Type 0) (xs : List A) → ((x : A) → In x xs → P x) → AllByRecursion P xs
all_from_in P [] h = tt
all_from_in P (x ∷ xs) h = (h x (inl refl), all_from_in P xs (λ y i. h y (inr i)))

pub once_distinct : (ys : List (List (List ℕ))) → Distinct (once ys)
once_distinct [] = tt
once_distinct (y ∷ ys) =
    let ih = once_distinct ys in
    let D : List (List (List ℕ)) → Type 0 = Distinct in
    cond_both (listed y ys) _ _ D (λ e. ih) (λ e. (all_from_in (λ z. y ≡ z → ⊥) (once ys) (λ x i f. not_from_Decides (listed y ys) (listed_in y ys) e (rw (← f) at ((once_in x ys).0 i))), ih))

-- nodes
pub size_with : (k : ℕ) (s : List (List ℕ)) → size (with_side k s) ≤ size s
size_with k [] = omega arith
size_with k ([] ∷ s) = let ih = size_with k s in omega arith
size_with k ((x ∷ c) ∷ s) = let ih = size_with k s in grind (arith, nat_tests)

pub size_without : (k : ℕ) (s : List (List ℕ)) → size (without_side k s) ≤ size s
size_without k [] = omega arith
size_without k (c ∷ s) = let ih = size_without k s in grind (arith, nat_tests)

pub size_sides : (k : ℕ) (c : List ℕ) (s : List (List ℕ)) → (size (with_side k ((k ∷ c) ∷ s)) < size ((k ∷ c) ∷ s)) × (size (without_side k ((k ∷ c) ∷ s)) < size ((k ∷ c) ∷ s))
size_sides k c s = let a = size_with k s in let b = size_without k s in grind (arith, nat_tests)

pub nodes_are : (n : ℕ) (s x : List (List ℕ)) → In x (nodes_within n s) → Node x s
unfolding nodes_within
nodes_are zero [] x h = absurd h
nodes_are (suc n) [] x h = absurd h
nodes_are zero ([] ∷ s) x h = absurd h
nodes_are (suc n) ([] ∷ s) x h = absurd h
nodes_are zero ((k ∷ c) ∷ s) x h = absurd h
nodes_are (suc n) ((k ∷ c) ∷ s) x h = elim (in_append x (nodes_within n (with_side k ((k ∷ c) ∷ s))) (nodes_within n (without_side k ((k ∷ c) ∷ s)) ++ (((k ∷ c) ∷ s) ∷ [])) h) [
  | inl i ↦ node_with (nodes_are n (with_side k ((k ∷ c) ∷ s)) x i)
  | inr j ↦ elim (in_append x (nodes_within n (without_side k ((k ∷ c) ∷ s))) (((k ∷ c) ∷ s) ∷ []) j) [
    | inl i ↦ node_without (nodes_are n (without_side k ((k ∷ c) ∷ s)) x i)
    | inr i ↦ elim i [ inl e ↦ node_itself e | inr z ↦ absurd z ]
  ]
]

pub nodes_all : {x s : List (List ℕ)} → Node x s → (n : ℕ) → size s ≤ n → In x (nodes_within n s)
unfolding nodes_within
nodes_all (node_itself {k} {c} {s} e) zero h = absurd (omega arith)
nodes_all {x} (node_itself {k} {c} {s} e) (suc n) h = in_append_right x (nodes_within n (with_side k ((k ∷ c) ∷ s))) (nodes_within n (without_side k ((k ∷ c) ∷ s)) ++ (((k ∷ c) ∷ s) ∷ [])) (in_append_right x (nodes_within n (without_side k ((k ∷ c) ∷ s))) (((k ∷ c) ∷ s) ∷ []) (inl e))
nodes_all (node_with {k} {c} {s} m) zero h = absurd (omega arith)
nodes_all {x} (node_with {k} {c} {s} m) (suc n) h = let z = size_sides k c s in in_append_left x (nodes_within n (with_side k ((k ∷ c) ∷ s))) (nodes_within n (without_side k ((k ∷ c) ∷ s)) ++ (((k ∷ c) ∷ s) ∷ [])) (nodes_all m n (omega arith))
nodes_all (node_without {k} {c} {s} m) zero h = absurd (omega arith)
nodes_all {x} (node_without {k} {c} {s} m) (suc n) h = let z = size_sides k c s in in_append_right x (nodes_within n (with_side k ((k ∷ c) ∷ s))) (nodes_within n (without_side k ((k ∷ c) ∷ s)) ++ (((k ∷ c) ∷ s) ∷ [])) (in_append_left x (nodes_within n (without_side k ((k ∷ c) ∷ s))) (((k ∷ c) ∷ s) ∷ []) (nodes_all m n (omega arith)))

pub in_nodes_of_all : (x : List (List ℕ)) (w : List (List (List ℕ))) → In x (nodes_of_all w) → (s : List (List ℕ)) × In s w × Node x s
in_nodes_of_all x [] h = absurd h
in_nodes_of_all x (s ∷ w) h = elim (in_append x (nodes_within (size s) s) (nodes_of_all w) h) [
  | inl i ↦ (s, inl refl, nodes_are (size s) s x i)
  | inr i ↦ let r = in_nodes_of_all x w i in (r.0, inr r.1, r.2)
]

pub nodes_of_all_in : (x s : List (List ℕ)) (w : List (List (List ℕ))) → In s w → Node x s → In x (nodes_of_all w)
nodes_of_all_in x s [] h m = absurd h
nodes_of_all_in x s (t ∷ w) (inl e) m = in_append_left x (nodes_within (size t) t) (nodes_of_all w) (nodes_all (rw e at m) (size t) (omega arith))
nodes_of_all_in x s (t ∷ w) (inr h) m = in_append_right x (nodes_within (size t) t) (nodes_of_all w) (nodes_of_all_in x s w h m)

pub crowded_counts : (n : ℕ) (w : List (List (List ℕ))) → Crowded n w ↔ (n < length (once (nodes_of_all w)))
crowded_counts n w = (there, back)
  where
    there : Crowded n w → n < length (once (nodes_of_all w))
    there c =
        let p = pigeons c.list (once (nodes_of_all w)) c.apart (λ x i. let r = all_in (λ x. (s : List (List ℕ)) × In s w × Node x s) c.list x c.nodes i in (once_in x (nodes_of_all w)).1 (nodes_of_all_in x r.0 w r.1 r.2)) in
        omega (arith, c.long)

    back : n < length (once (nodes_of_all w)) → Crowded n w
    back h = record { list = once (nodes_of_all w); long = h; apart = once_distinct (nodes_of_all w); nodes = all_from_in _ (once (nodes_of_all w)) (λ x i. in_nodes_of_all x w ((once_in x (nodes_of_all w)).0 i)) }

pub nodes_listed : NodesListed
nodes_listed s x = (nodes_are (size s) s x, λ n. nodes_all n (size s) (omega arith))
