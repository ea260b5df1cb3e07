-- A set of clauses in its one form is stored as it is.
use Rattle.std.proofs.Common.{◌≡◌, ℕ, ◌<◌, ◌≤◌, true, false, List, [], ◌∷◌, ◌++◌, map, length, sym, refl, ap, ◌∙◌, subst, inl, inr, append_assoc, append-nil, arith}
use Rattle.std.specs.List.{AllByRecursion}
use Rattle.std.proofs.ByRecursion.{All-push, All-weaker, All-map}
use Rattle.std.proofs.lemmas.List.{length-map}
use Rattle.std.proofs.lemmas.Bool.{both_ways, false_from_ne_true, cond-false, or_from}
use Rattle.qbf.specs.Lists.{In}
use Rattle.qbf.specs.Clauses.{below, Rising, Canonical}
use Rattle.clause.specs.Once.{once, both_signs, same_set}
use Rattle.clause.proofs.Sets.{once_all, signs, same}
use Rattle.grammar.specs.Stored.{repeated, store, store_all}
use Rattle.grammar.specs.Theorems.{LeavesOut}
use Rattle.grammar.specs.Theorems.LeavesOut.{done, keeps, skips}
use Rattle.grammar.proofs.Storing.{stored_stands_lem}
use Rattle.sets.specs.Ordered.{clause_of}
use Rattle.sets.specs.Formed.{formed}
use Rattle.sets.proofs.Words.{above_absent, without_absent, all_in}
use Rattle.sets.proofs.Order.{below_not_self}
use Rattle.sets.proofs.Placed.{clause_members, all_clause}
use Rattle.sets.proofs.Formed.{all_formed, length_formed}

once_rising : (c : List ℕ) → Rising c → once c ≡ c
once_rising [] r = refl
once_rising (x ∷ c) r = rw (once_rising c r.1) (rw (without_absent x c (above_absent x x c (omega arith) r.0)))

tail : (k y : ℕ) (d : List ℕ) → In k (y ∷ d) → y < k → In k d
tail k y d (inl e) l = absurd (omega arith)
tail k y d (inr i) l = i

-- rising codes with the same members are the same
rising_same : (c d : List ℕ) → Rising c → Rising d → ((k : ℕ) → (In k c → In k d) × (In k d → In k c)) → c ≡ d
rising_same [] [] r t h = refl
rising_same [] (y ∷ d) r t h = absurd ((h y).1 (inl refl))
rising_same (x ∷ c) [] r t h = absurd ((h x).0 (inl refl))
rising_same (x ∷ c) (y ∷ d) r t h =
    let e : x ≡ y = heads ((h x).0 (inl refl)) ((h y).1 (inl refl)) in
    let above : (k : ℕ) → In k c → x < k = λ k. all_in (λ z. x < z) c k r.0 in
    let over : (k : ℕ) → In k d → y < k = λ k. all_in (λ z. y < z) d k t.0 in
    let ih = rising_same c d r.1 t.1 (λ k. (
      λ i. tail k y d ((h k).0 (inr i)) (let l = above k i in omega arith),
      λ i. tail k x c ((h k).1 (inr i)) (let l = over k i in omega arith),
    )) in
    cc
  where
    heads : In x (y ∷ d) → In y (x ∷ c) → x ≡ y
    heads (inl e) j = e
    heads (inr i) (inl e) = sym e
    heads (inr i) (inr j) =
        let p = all_in (λ z. y < z) d x t.0 i in
        let q = all_in (λ z. x < z) c y r.0 j in
        absurd (omega arith)

unlike : (c d : List ℕ) → Rising c → Rising d → below d c ≡ true → same_set c d ≡ false
unlike c d r t b = false_from_ne_true _ (λ s.
    let e = rising_same c d r t ((same c d).0 s) in
    both_ways (below c c) (below_not_self c) (subst (λ (x : List ℕ). below x c ≡ true) (sym e) b))

unrepeated : (c : List ℕ) (stored : List (List ℕ)) → Rising c → AllByRecursion Rising stored → AllByRecursion (λ d. below d c ≡ true) stored → repeated c stored ≡ false
unrepeated c [] r a b = refl
unrepeated c (d ∷ stored) r a b = or_from (same_set c d) (repeated c stored) (unlike c d r a.0 b.0) (unrepeated c stored r a.1 b.1)

store_next : (stored : List (List ℕ)) (c : List ℕ) → Rising c → AllByRecursion Rising stored → AllByRecursion (λ d. below d c ≡ true) stored → both_signs c ≡ false → store stored c ≡ stored ++ c ∷ []
store_next stored c r a b s =
    let o = once_rising c r in
    cond-false (both_signs c) _ _ s
    ∙ cond-false (repeated (once c) stored) _ _ (ap (λ (q : List ℕ). repeated q stored) o ∙ unrepeated c stored r a b)
    ∙ ap (λ (q : List ℕ). stored ++ q ∷ []) o

store_rest : (s stored : List (List ℕ)) → AllByRecursion Rising stored → Canonical s → AllByRecursion (λ d. AllByRecursion (λ c. below d c ≡ true) s) stored → AllByRecursion (λ c. both_signs c ≡ false) s → store_all stored s ≡ stored ++ s
store_rest [] stored a h b o = sym (append-nil stored)
store_rest (c ∷ s) stored a h b o =
    let now : AllByRecursion (λ d. below d c ≡ true) stored = All-weaker (λ d. AllByRecursion (λ c. below d c ≡ true) (c ∷ s)) (λ d. below d c ≡ true) (λ d x. x.0) stored b in
    let later : AllByRecursion (λ d. AllByRecursion (λ c. below d c ≡ true) s) stored = All-weaker (λ d. AllByRecursion (λ c. below d c ≡ true) (c ∷ s)) (λ d. AllByRecursion (λ c. below d c ≡ true) s) (λ d x. x.1) stored b in
    ap (λ (q : List (List ℕ)). store_all q s) (store_next stored c h.0.0 a now o.0)
    ∙ store_rest s (stored ++ c ∷ []) (All-push Rising stored c a h.0.0) (h.0.1, h.1.1) (All-push (λ d. AllByRecursion (λ c. below d c ≡ true) s) stored c later h.1.0) o.1
    ∙ append_assoc stored (c ∷ []) s

pub stored_same : (s : List (List ℕ)) → Canonical s → AllByRecursion (λ c. both_signs c ≡ false) s → store_all [] s ≡ s
stored_same s h o = store_rest s [] tt h tt o

-- what holds of all codes written holds of all codes of the set that is formed

all_left : {A : Type 0} (P : A → Type 0) {xs ys : List A} → LeavesOut xs ys → AllByRecursion P ys → AllByRecursion P xs
all_left P done a = tt
all_left P (keeps l) a = (a.0, all_left P l a.1)
all_left P (skips l) a = all_left P l a.1

length_left : {A : Type 0} {xs ys : List A} → LeavesOut xs ys → length xs ≤ length ys
length_left done = omega arith
length_left (keeps l) = let ih = length_left l in omega arith
length_left (skips l) = let ih = length_left l in omega arith

-- no more clauses are stored than are written
pub length_stored : (written : List (List ℕ)) → length (formed [] (store_all [] written)) ≤ length written
length_stored written =
    let a = length_formed [] (store_all [] written) in
    let b = length_left (stored_stands_lem written).in_order in
    let c : length (map once written) ≡ length written = simp length-map in
    omega arith

-- what holds of all codes of a set, weaker
pub codes_weaker : (P Q : ℕ → Type 0) → ((k : ℕ) → P k → Q k) → (s : List (List ℕ)) → AllByRecursion (AllByRecursion P) s → AllByRecursion (AllByRecursion Q) s
codes_weaker P Q f = All-weaker (AllByRecursion P) (AllByRecursion Q) (All-weaker P Q f)

pub codes_stored : (P : ℕ → Type 0) (written : List (List ℕ)) → AllByRecursion (AllByRecursion P) written → AllByRecursion (AllByRecursion P) (store_all [] written)
codes_stored P written a =
    all_left (AllByRecursion P) (stored_stands_lem written).in_order (All-map (AllByRecursion P) once written (All-weaker (AllByRecursion P) (λ c. AllByRecursion P (once c)) (once_all P) written a))

pub codes_formed : (P : ℕ → Type 0) (written : List (List ℕ)) → AllByRecursion (AllByRecursion P) written → AllByRecursion (AllByRecursion P) (formed [] (store_all [] written))
codes_formed P written a =
    all_formed (AllByRecursion P) [] (store_all [] written) tt (All-weaker (AllByRecursion P) (λ c. AllByRecursion P (clause_of c)) (all_clause P) (store_all [] written) (codes_stored P written a))

one_sign : (c : List ℕ) → both_signs c ≡ false → both_signs (clause_of c) ≡ false
one_sign c b = false_from_ne_true _ (λ t.
    let k = (signs (clause_of c)).0 t in
    let m = (clause_members c).1 in
    both_ways (both_signs c) b ((signs c).1 (k.0, (m k.0).0 k.1, (m _).0 k.2)))

pub one_sign_formed : (written : List (List ℕ)) → AllByRecursion (λ c. both_signs c ≡ false) (formed [] (store_all [] written))
one_sign_formed written =
    all_formed (λ c. both_signs c ≡ false) [] (store_all [] written) tt
    (All-weaker (λ c. both_signs c ≡ false) (λ c. both_signs (clause_of c) ≡ false) one_sign (store_all [] written) (stored_stands_lem written).one_sign)
