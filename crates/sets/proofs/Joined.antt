-- Sets by their two sides: what the operations make of them.
use Rattle.std.proofs.Common.{◌≡◌, ℕ, ◌+◌, ◌<◌, ◌≤◌, true, not, ◌⊎◌, List, [], ◌∷◌, map, length, sym, refl, ap, ◌∙◌, subst, inl, inr, arith, length-append}
use Rattle.std.specs.List.{AllByRecursion}
use Rattle.std.proofs.lemmas.Bool.Decides.{nat_tests}
use Rattle.std.proofs.lemmas.List.{length-map}
use Rattle.std.proofs.ByRecursion.{All-append, all_kept_by, All-map, All-weaker}
use Rattle.qbf.specs.Lists.{In, mem, without}
use Rattle.qbf.specs.Clauses.{below, Rising, Sorted, Canonical, weave, union, holding, lacking, taken_out}
use Rattle.qbf.specs.Nodes.{with_side, without_side, Node, node_itself, node_with, node_without}
use Rattle.sets.specs.Sides.{Over, joined}
use Rattle.sets.proofs.Words.{above_absent, without_absent, all_without}
use Rattle.sets.proofs.Order.{below_not_self, all_union}

abbrev Set : Type 0
Set = List (List ℕ)

pub over_less : (j k : ℕ) (s : Set) → j ≤ k → Over k s → Over j s
over_less j k s l a = All-weaker (AllByRecursion (λ y. k < y)) (AllByRecursion (λ y. j < y)) (λ c. All-weaker (λ y. k < y) (λ y. j < y) (λ y h. omega arith) c) s a

over_put : (j k : ℕ) (hi : Set) → j < k → Over k hi → Over j (map (λ c. k ∷ c) hi)
over_put j k hi l a = All-map (AllByRecursion (λ y. j < y)) (λ c. k ∷ c) hi (All-weaker (AllByRecursion (λ y. k < y)) (λ c. AllByRecursion (λ y. j < y) (k ∷ c)) (λ c h. (l, All-weaker (λ y. k < y) (λ y. j < y) (λ y g. omega arith) c h)) hi a)

pub over_joined : (j k : ℕ) (hi lo : Set) → j < k → Over k hi → Over k lo → Over j (joined k hi lo)
over_joined j k hi lo l a b = All-append (AllByRecursion (λ y. j < y)) (map (λ c. k ∷ c) hi) lo (over_put j k hi l a) (over_less j k lo (omega arith) b)

-- the sides are read off a set

pub side_with : (k : ℕ) (hi lo : Set) → Over k lo → with_side k (joined k hi lo) ≡ hi
side_with k [] [] a = refl
side_with k [] ([] ∷ lo) a = side_with k [] lo a.1
side_with k [] ((x ∷ c) ∷ lo) a = let ih = side_with k [] lo a.1 in let l = a.0.0 in grind (arith, nat_tests)
side_with k (c ∷ hi) lo a = let ih = side_with k hi lo a in grind (arith, nat_tests)

pub side_without : (k : ℕ) (hi lo : Set) → Over k lo → without_side k (joined k hi lo) ≡ lo
side_without k [] [] a = refl
side_without k [] ([] ∷ lo) a = let ih = side_without k [] lo a.1 in grind (arith, nat_tests)
side_without k [] ((x ∷ c) ∷ lo) a = let ih = side_without k [] lo a.1 in let l = a.0.0 in grind (arith, nat_tests)
side_without k (c ∷ hi) lo a = let ih = side_without k hi lo a in grind (arith, nat_tests)

pub same_sides : (k : ℕ) (hi lo hi' lo' : Set) → Over k lo → Over k lo' → joined k hi lo ≡ joined k hi' lo' → (hi ≡ hi') × (lo ≡ lo')
same_sides k hi lo hi' lo' a b e = (
  sym (side_with k hi lo a) ∙ ap (with_side k) e ∙ side_with k hi' lo' b,
  sym (side_without k hi lo a) ∙ ap (without_side k) e ∙ side_without k hi' lo' b,
)

-- the form

rising_put : (k : ℕ) (hi : Set) → AllByRecursion Rising hi → Over k hi → AllByRecursion Rising (map (λ c. k ∷ c) hi)
rising_put k [] r a = tt
rising_put k (c ∷ hi) r a = ((a.0, r.0), rising_put k hi r.1 a.1)

below_put : (k : ℕ) (c : List ℕ) (hi : Set) → AllByRecursion (λ d. below c d ≡ true) hi → AllByRecursion (λ d. below (k ∷ c) d ≡ true) (map (λ c. k ∷ c) hi)
below_put k c [] a = tt
below_put k c (d ∷ hi) a = (let h = a.0 in grind (arith, nat_tests), below_put k c hi a.1)

below_over : (k : ℕ) (c : List ℕ) (lo : Set) → Over k lo → AllByRecursion (λ d. below (k ∷ c) d ≡ true) lo
below_over k c [] a = tt
below_over k c ([] ∷ lo) a = (refl, below_over k c lo a.1)
below_over k c ((x ∷ d) ∷ lo) a = (let h = a.0.0 in grind (arith, nat_tests), below_over k c lo a.1)

sorted_joined : (k : ℕ) (hi lo : Set) → Sorted hi → Sorted lo → Over k lo → Sorted (joined k hi lo)
sorted_joined k [] lo h l a = l
sorted_joined k (c ∷ hi) lo h l a = (All-append (λ d. below (k ∷ c) d ≡ true) (map (λ c. k ∷ c) hi) lo (below_put k c hi h.0) (below_over k c lo a), sorted_joined k hi lo h.1 l a)

pub canonical_joined : (k : ℕ) (hi lo : Set) → Canonical hi → Canonical lo → Over k hi → Over k lo → Canonical (joined k hi lo)
canonical_joined k hi lo h l a b = (All-append Rising (map (λ c. k ∷ c) hi) lo (rising_put k hi h.0 a) l.0, sorted_joined k hi lo h.1 l.1 b)

-- the union

pub union_nil : (s : Set) → union s [] ≡ s
union_nil [] = refl
union_nil (c ∷ s) = ap (λ t. c ∷ t) (union_nil s)

pub union_self : (s : Set) → union s s ≡ s
union_self [] = refl
union_self (c ∷ s) = let ih = union_self s in let n = below_not_self c in grind (arith, nat_tests)

weave_early : (k : ℕ) (c : List ℕ) (rest : Set → Set) (lo : Set) → Over k lo → weave (k ∷ c) rest lo ≡ (k ∷ c) ∷ rest lo
weave_early k c rest [] a = refl
weave_early k c rest (d ∷ lo) a = let b = (below_over k c (d ∷ lo) a).0 in grind (arith, nat_tests)

weave_late : (k : ℕ) (c : List ℕ) (rest : Set → Set) (hi lo : Set) → AllByRecursion (λ y. k < y) c → weave c rest (joined k hi lo) ≡ joined k hi (weave c rest lo)
weave_late k c rest [] lo a = refl
weave_late k [] rest (d ∷ hi) lo a = let ih = weave_late k [] rest hi lo a in grind (arith, nat_tests)
weave_late k (x ∷ c) rest (d ∷ hi) lo a = let ih = weave_late k (x ∷ c) rest hi lo a in let l = a.0 in grind (arith, nat_tests)

union_late : (k : ℕ) (s hi lo : Set) → Over k s → union s (joined k hi lo) ≡ joined k hi (union s lo)
union_late k [] hi lo a = refl
union_late k (c ∷ s) hi lo a = weave_late k c (union s) hi lo a.0

pub union_joined : (k : ℕ) (h l hi lo : Set) → Over k l → Over k lo → union (joined k h l) (joined k hi lo) ≡ joined k (union h hi) (union l lo)
union_joined k [] l hi lo a b = union_late k l hi lo a
union_joined k (c ∷ h) l hi lo a b = go (λ hi. union_joined k h l hi lo a b) hi
  where
    go : ((hi : Set) → union (joined k h l) (joined k hi lo) ≡ joined k (union h hi) (union l lo)) → (hi : Set) → weave (k ∷ c) (union (joined k h l)) (joined k hi lo) ≡ joined k (weave c (union h) hi) (union l lo)
    go rec [] = weave_early k c (union (joined k h l)) lo b ∙ ap (λ t. (k ∷ c) ∷ t) (rec [])
    go rec (d ∷ hi) = let r = rec (d ∷ hi) in let q = rec hi in let i = go rec hi in grind (arith, nat_tests)

pub over_union : (k : ℕ) (s t : Set) → Over k s → Over k t → Over k (union s t)
over_union k s t = all_union (AllByRecursion (λ y. k < y)) s t

-- the clauses without a literal, and those with it

pub lacking_over : (l k : ℕ) (s : Set) → l ≤ k → Over k s → lacking l s ≡ s
lacking_over l k [] h a = refl
lacking_over l k (c ∷ s) h a = let ih = lacking_over l k s h a.1 in let e = above_absent l k c h a.0 in grind (arith, nat_tests)

pub holding_over : (l k : ℕ) (s : Set) → l ≤ k → Over k s → holding l s ≡ []
holding_over l k [] h a = refl
holding_over l k (c ∷ s) h a = let ih = holding_over l k s h a.1 in let e = above_absent l k c h a.0 in grind (arith, nat_tests)

pub lacking_here : (l : ℕ) (hi lo : Set) → Over l lo → lacking l (joined l hi lo) ≡ lo
lacking_here l [] lo a = lacking_over l l lo (omega arith) a
lacking_here l (c ∷ hi) lo a = let ih = lacking_here l hi lo a in grind (arith, nat_tests)

pub lacking_other : (l k : ℕ) (hi lo : Set) → (k ≡ l → ⊥) → lacking l (joined k hi lo) ≡ joined k (lacking l hi) (lacking l lo)
lacking_other l k [] lo n = refl
lacking_other l k (c ∷ hi) lo n = let ih = lacking_other l k hi lo n in grind (arith, nat_tests)

pub taken_out_over : (l k : ℕ) (s : Set) → l ≤ k → Over k s → taken_out l s ≡ []
taken_out_over l k s h a = ap (map (without l)) (holding_over l k s h a)

pub taken_out_here : (l : ℕ) (hi lo : Set) → Over l hi → Over l lo → taken_out l (joined l hi lo) ≡ hi
taken_out_here l [] lo h a = taken_out_over l l lo (omega arith) a
taken_out_here l (c ∷ hi) lo h a =
    let ih = taken_out_here l hi lo h.1 a in
    let w = without_absent l c (above_absent l l c (omega arith) h.0) in
    grind (arith, nat_tests)

pub taken_out_other : (l k : ℕ) (hi lo : Set) → (k ≡ l → ⊥) → taken_out l (joined k hi lo) ≡ joined k (taken_out l hi) (taken_out l lo)
taken_out_other l k [] lo n = refl
taken_out_other l k (c ∷ hi) lo n = let ih = taken_out_other l k hi lo n in grind (arith, nat_tests)

pub over_lacking : (k l : ℕ) (s : Set) → Over k s → Over k (lacking l s)
over_lacking k l s a = all_kept_by (λ c. not (mem l c)) (AllByRecursion (λ y. k < y)) s a

pub over_taken_out : (k l : ℕ) (s : Set) → Over k s → Over k (taken_out l s)
over_taken_out k l s a = All-map (AllByRecursion (λ y. k < y)) (without l) (holding l s) (All-weaker (AllByRecursion (λ y. k < y)) (λ c. AllByRecursion (λ y. k < y) (without l c)) (λ c h. all_without (λ y. k < y) l c h) (holding l s) (all_kept_by (mem l) (AllByRecursion (λ y. k < y)) s a))

-- numbers of clauses

pub length_joined : (k : ℕ) (hi lo : Set) → length (joined k hi lo) ≡ length hi + length lo
length_joined k hi lo = simp (length-append, length-map)

pub count_here : (l : ℕ) (hi lo : Set) → Over l lo → length (holding l (joined l hi lo)) ≡ length hi
count_here l [] lo a = ap length (holding_over l l lo (omega arith) a)
count_here l (c ∷ hi) lo a = let ih = count_here l hi lo a in grind (arith, nat_tests)

pub count_other : (l k : ℕ) (hi lo : Set) → (k ≡ l → ⊥) → length (holding l (joined k hi lo)) ≡ length (holding l hi) + length (holding l lo)
count_other l k [] lo n = omega arith
count_other l k (c ∷ hi) lo n = let ih = count_other l k hi lo n in grind (arith, nat_tests)

-- the empty clause, and clauses of one literal

pub empty_joined : (k : ℕ) (hi lo : Set) → In [] (joined k hi lo) → In [] lo
empty_joined k [] lo i = i
empty_joined k (c ∷ hi) lo (inl e) = cc
empty_joined k (c ∷ hi) lo (inr i) = empty_joined k hi lo i

pub joined_low : (k : ℕ) (c : List ℕ) (hi lo : Set) → In c lo → In c (joined k hi lo)
joined_low k c [] lo i = i
joined_low k c (d ∷ hi) lo i = inr (joined_low k c hi lo i)

pub joined_high : (k : ℕ) (c : List ℕ) (hi lo : Set) → In c hi → In (k ∷ c) (joined k hi lo)
joined_high k c [] lo i = absurd i
joined_high k c (d ∷ hi) lo (inl e) = inl (ap (λ c. k ∷ c) e)
joined_high k c (d ∷ hi) lo (inr i) = inr (joined_high k c hi lo i)

pub in_joined : (k l : ℕ) (c : List ℕ) (hi lo : Set) → In (l ∷ c) (joined k hi lo) → ((l ≡ k) × In c hi) ⊎ In (l ∷ c) lo
in_joined k l c [] lo i = inr i
in_joined k l c (d ∷ hi) lo (inl e) = inl (cc, inl (cc))
in_joined k l c (d ∷ hi) lo (inr i) = elim (in_joined k l c hi lo i) [ inl r ↦ inl (r.0, inr r.1) | inr j ↦ inr j ]

-- nodes

pub node_low : {x : Set} (k : ℕ) (hi lo : Set) → Over k lo → Node x lo → Node x (joined k hi lo)
node_low k [] lo a n = n
node_low {x} k (c ∷ hi) lo a n = node_without (subst (Node x) (sym (side_without k (c ∷ hi) lo a)) n)

pub node_high : {x : Set} (k : ℕ) (hi lo : Set) → Over k lo → Node x hi → Node x (joined k hi lo)
node_high {x} k [] lo a n = absurd (none x [] n refl)
  where
    none : (x s : Set) → Node x s → s ≡ [] → ⊥
    none x s (node_itself e) f = cc
    none x s (node_with n) f = cc
    none x s (node_without n) f = cc
node_high {x} k (c ∷ hi) lo a n = node_with (subst (Node x) (sym (side_with k (c ∷ hi) lo a)) n)

-- a node of a set is the set or a node of a side
pub node_cases : {x s : Set} → Node x s → (k : ℕ) (c : List ℕ) (hi lo : Set) → s ≡ joined k (c ∷ hi) lo → Over k lo → (x ≡ s) ⊎ (Node x (c ∷ hi) ⊎ Node x lo)
node_cases (node_itself e) k c hi lo f a = inl e
node_cases {x} (node_with {k = j} {c = d} {s} n) k c hi lo f a =
    let kj : j ≡ k = cc in
    let e : with_side j ((j ∷ d) ∷ s) ≡ c ∷ hi = ap (with_side j) f ∙ ap (λ i. with_side i (joined k (c ∷ hi) lo)) kj ∙ side_with k (c ∷ hi) lo a in
    inr (inl (subst (Node x) e n))
node_cases {x} (node_without {k = j} {c = d} {s} n) k c hi lo f a =
    let kj : j ≡ k = cc in
    let e : without_side j ((j ∷ d) ∷ s) ≡ lo = ap (without_side j) f ∙ ap (λ i. without_side i (joined k (c ∷ hi) lo)) kj ∙ side_without k (c ∷ hi) lo a in
    inr (inr (subst (Node x) e n))

-- the two sets without nodes
pub node_none : {x s : Set} → Node x s → (s ≡ []) ⊎ (s ≡ [] ∷ []) → ⊥
node_none (node_itself e) f = elim f [ inl g ↦ (cc) | inr g ↦ (cc) ]
node_none (node_with n) f = elim f [ inl g ↦ (cc) | inr g ↦ (cc) ]
node_none (node_without n) f = elim f [ inl g ↦ (cc) | inr g ↦ (cc) ]
