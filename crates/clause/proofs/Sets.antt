-- The laws of 'each literal once', 'both signs' and 'the same literals'.
use Rattle.std.proofs.Common.{◌≡◌, ℕ, ◌<◌, ◌≤◌, Bool, true, false, ◌||◌, eqb, ◌⊎◌, List, [], ◌∷◌, ◌++◌, length, Decides, sym, refl, ap, ◌∙◌, subst, inl, inr, ⊎_elim, append-nil, arith}
use Rattle.std.specs.List.{AllByRecursion, list_all, list_any}
use Rattle.std.proofs.lemmas.Bool.{both_ways, cases_eq, cond-true, cond-false, eq-eqb, ne_eqb, or_left, or_right, or_cases, and_parts, and_from, false_from_ne_true}
use Rattle.std.proofs.lemmas.Bool.Decides.{same_from_decides, Decides-like, Decides-and, Decides-or}
use Rattle.qbf.specs.Literals.{complement}
use Rattle.qbf.specs.Lists.{In, Distinct, mem, without}
use Rattle.clause.specs.Once.{once, both_signs, within, same_set, OnceStands}
use Rattle.qbf.proofs.Lists.{in_mem, mem_in, mem_decides, cases_in, in_left, in_right, in_cases, apart_from_in}
use Rattle.clause.proofs.Members.{without_out, without_in, all_without, without_distinct, without_apart, without_append, length_without, length_inside}

-- each literal once

pub once_out : (k : ℕ) (cs : List ℕ) → In k (once cs) → In k cs
once_out k [] i = i
once_out k (c ∷ cs) (inl e) = inl e
once_out k (c ∷ cs) (inr i) = inr (once_out k cs (without_out k c (once cs) i).0)

pub once_in : (k : ℕ) (cs : List ℕ) → In k cs → In k (once cs)
once_in k [] i = i
once_in k (c ∷ cs) (inl e) = inl e
once_in k (c ∷ cs) (inr i) = ⊎_elim (λ e. inl e) (λ n. inr (without_in k c (once cs) (once_in k cs i) n)) (cases_eq k c)

pub once_distinct : (cs : List ℕ) → Distinct (once cs)
once_distinct [] = tt
once_distinct (c ∷ cs) = (without_apart c (once cs), without_distinct c (once cs) (once_distinct cs))

pub mem_once : (k : ℕ) (cs : List ℕ) → mem k (once cs) ≡ mem k cs
mem_once k cs =
    same_from_decides (mem k (once cs)) (mem k cs) (Decides-like (mem k (once cs)) (once_out k cs) (once_in k cs) (mem_decides k (once cs))) (mem_decides k cs)

pub once_length : (cs : List ℕ) → length (once cs) ≤ length cs
once_length [] = omega arith
once_length (c ∷ cs) =
    let ih = once_length cs in
    let l = length_without c (once cs) in
    omega arith

pub once_all : (P : ℕ → Type 0) (cs : List ℕ) → AllByRecursion P cs → AllByRecursion P (once cs)
once_all P [] a = tt
once_all P (c ∷ cs) a = (a.0, all_without P c (once cs) (once_all P cs a.1))

-- one more literal, which is new
pub once_new : (xs : List ℕ) (x : ℕ) → (In x xs → ⊥) → once (xs ++ x ∷ []) ≡ once xs ++ x ∷ []
once_new [] x n = refl
once_new (c ∷ xs) x n =
    ap (λ (q : List ℕ). c ∷ without c q) (once_new xs x (λ i. n (inr i)))
    ∙ ap (λ (q : List ℕ). c ∷ q) (without_append c (once xs) (x ∷ []) ∙ ap (λ (q : List ℕ). without c (once xs) ++ q) (cond-false (eqb c x) _ _ (ne_eqb c x (λ e. n (inl (sym e))))))

-- or which has come before
pub once_old : (xs : List ℕ) (x : ℕ) → In x xs → once (xs ++ x ∷ []) ≡ once xs
once_old [] x i = elim i [ ]
once_old (c ∷ xs) x i =
    ⊎_elim
    (λ j. ap (λ (q : List ℕ). c ∷ without c q) (once_old xs x j))
    (λ n.
    let e : c ≡ x = ⊎_elim (λ f. sym f) (λ j. absurd (n j)) i in
    ap (λ (q : List ℕ). c ∷ without c q) (once_new xs x n)
    ∙ ap (λ (q : List ℕ). c ∷ q) (without_append c (once xs) (x ∷ []) ∙ ap (λ (q : List ℕ). without c (once xs) ++ q) (cond-true (eqb c x) _ _ (eq-eqb c x e)) ∙ append-nil (without c (once xs))))
    (cases_in x xs)

-- tests of some and of each literal

pub any_out : (test : ℕ → Bool) (cs : List ℕ) → list_any test cs ≡ true → (k : ℕ) × In k cs × (test k ≡ true)
any_out test [] e = absurd (both_ways false refl e)
any_out test (c ∷ cs) e =
    ⊎_elim (λ h. (c, inl refl, h)) (λ h. let r = any_out test cs h in (r.0, inr r.1, r.2)) (or_cases (test c) (list_any test cs) e)

pub any_in : (test : ℕ → Bool) (cs : List ℕ) (k : ℕ) → In k cs → test k ≡ true → list_any test cs ≡ true
any_in test [] k i h = elim i [ ]
any_in test (c ∷ cs) k (inl e) h = or_left (test c) _ (ap test (sym e) ∙ h)
any_in test (c ∷ cs) k (inr i) h = or_right (test c) _ (any_in test cs k i h)

pub all_out : (test : ℕ → Bool) (cs : List ℕ) → list_all test cs ≡ true → (k : ℕ) → In k cs → test k ≡ true
all_out test [] e k i = elim i [ ]
all_out test (c ∷ cs) e k (inl f) = ap test f ∙ (and_parts (test c) (list_all test cs) e).0
all_out test (c ∷ cs) e k (inr i) = all_out test cs (and_parts (test c) (list_all test cs) e).1 k i

pub all_in : (test : ℕ → Bool) (cs : List ℕ) → ((k : ℕ) → In k cs → test k ≡ true) → list_all test cs ≡ true
all_in test [] h = refl
all_in test (c ∷ cs) h = and_from (test c) (list_all test cs) (h c (inl refl)) (all_in test cs (λ k i. h k (inr i)))

-- both signs

pub complement_twice : (k : ℕ) → complement (complement k) ≡ k
complement_twice k = omega arith

pub complement_apart : (k : ℕ) → complement k ≡ k → ⊥
complement_apart k e = omega arith

-- some literal and its complement stand in the list
abbrev Signs : List ℕ → Type 0
Signs cs = (k : ℕ) × In k cs × In (complement k) cs

pub signs : (cs : List ℕ) → Decides (both_signs cs) ((k : ℕ) × In k cs × In (complement k) cs)
signs cs = (
  λ e. let r = any_out (λ c. mem (complement c) cs) cs e in (r.0, r.1, mem_in (complement r.0) cs r.2),
  λ h. any_in (λ c. mem (complement c) cs) cs h.0 h.1 (in_mem (complement h.0) cs h.2),
)

-- one more literal
pub both_signs_more : (xs : List ℕ) (x : ℕ) → both_signs (xs ++ x ∷ []) ≡ (both_signs xs || mem (complement x) xs)
both_signs_more xs x =
    same_from_decides (both_signs (xs ++ x ∷ [])) (both_signs xs || mem (complement x) xs)
    (Decides-like (both_signs (xs ++ x ∷ [])) parted joined (signs (xs ++ x ∷ [])))
    (Decides-or (both_signs xs) (mem (complement x) xs) (signs xs) (mem_decides (complement x) xs))
  where
    last : (k : ℕ) → In k (x ∷ []) → k ≡ x
    last k (inl e) = e
    last k (inr z) = elim z [ ]

    parted : Signs (xs ++ x ∷ []) → Signs xs ⊎ In (complement x) xs
    parted h =
        ⊎_elim
        (λ i. ⊎_elim (λ j. inl (h.0, i, j)) (λ j. inr (subst (λ (q : ℕ). In q xs) (sym (complement_twice h.0) ∙ ap complement (last (complement h.0) j)) i)) (in_cases (complement h.0) xs (x ∷ []) h.2))
        (λ i.
        let e = last h.0 i in
        ⊎_elim (λ j. inr (subst (λ (q : ℕ). In (complement q) xs) e j)) (λ j. absurd (complement_apart h.0 (last (complement h.0) j ∙ sym e))) (in_cases (complement h.0) xs (x ∷ []) h.2))
        (in_cases h.0 xs (x ∷ []) h.1)

    joined : Signs xs ⊎ In (complement x) xs → Signs (xs ++ x ∷ [])
    joined (inl h) = (h.0, in_left h.0 xs _ h.1, in_left (complement h.0) xs _ h.2)
    joined (inr i) = (x, in_right x xs _ (inl refl), in_left (complement x) xs _ i)

-- the same literals

pub within_decides : (a b : List ℕ) → Decides (within a b) ((k : ℕ) → In k a → In k b)
within_decides a b = (λ e k i. mem_in k b (all_out (λ c. mem c b) a e k i), λ h. all_in (λ c. mem c b) a (λ k i. in_mem k b (h k i)))

pub same : (a b : List ℕ) → Decides (same_set a b) ((k : ℕ) → (In k a → In k b) × (In k b → In k a))
same a b =
    Decides-like (same_set a b) (λ h k. (h.0 k, h.1 k)) (λ h. (λ k. (h k).0, λ k. (h k).1)) (Decides-and (within a b) (within b a) (within_decides a b) (within_decides b a))

pub same_itself : (a : List ℕ) → same_set a a ≡ true
same_itself a = (same a a).1 (λ k. (λ i. i, λ i. i))

pub same_turned : (a b : List ℕ) → same_set a b ≡ same_set b a
same_turned a b = same_from_decides (same_set a b) (same_set b a) (same a b) (Decides-like (same_set b a) (λ h k. ((h k).1, (h k).0)) (λ h k. ((h k).1, (h k).0)) (same b a))

-- distinct codes, as many in the one as in the other: it is enough that the one holds the other
pub within_as_long : (a b : List ℕ) → Distinct b → length a ≡ length b → within b a ≡ same_set a b
within_as_long a b d l = same_from_decides (within b a) (same_set a b) (within_decides b a) (Decides-like (same_set a b) (λ h k. (h k).1) (λ h k. (back h k, h k)) (same a b))
  where
    back : ((k : ℕ) → In k b → In k a) → (k : ℕ) → In k a → In k b
    back h k i =
        ⊎_elim (λ j. j) (λ n. let m = length_inside (k ∷ b) a (apart_from_in k b n, d) (λ j p. ⊎_elim (λ e. subst (λ (q : ℕ). In q a) (sym e) i) (h j) p) in absurd (omega arith)) (cases_in k b)

-- distinct codes with the same members are as many
pub same_length : (a b : List ℕ) → Distinct a → Distinct b → same_set a b ≡ true → length a ≡ length b
same_length a b da db e =
    let h = (same a b).0 e in
    let m = length_inside a b da (λ k. (h k).0) in
    let n = length_inside b a db (λ k. (h k).1) in
    omega arith

-- so two lists with another number of distinct codes are not the same
pub other_length : (a b : List ℕ) → Distinct a → Distinct b → (length a ≡ length b → ⊥) → same_set a b ≡ false
other_length a b da db n = false_from_ne_true _ (λ e. n (same_length a b da db e))

pub once_stands_lem : OnceStands
once_stands_lem = (
  λ cs. record {
    once_keeps = λ k. once_in k cs;
    once_adds_none = λ k. once_out k cs;
    once_distinct = once_distinct cs;
    once_length = once_length cs;
    once_small = λ n. once_all (λ c. c < n) cs;
    signs = signs cs;
    same_itself = same_itself cs;
  },
  λ a b. record { same = same a b; same_turned = same_turned a b },
)
