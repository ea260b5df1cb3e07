-- The set of clauses that are stored one after the other.
use Rattle.std.proofs.Common.{◌≡◌, ℕ, ◌+◌, ◌<◌, ◌≤◌, ◌⊎◌, List, [], ◌∷◌, length, sym, refl, ap, ◌∙◌, subst, inl, inr, arith}
use Rattle.std.specs.List.{AllByRecursion}
use Rattle.std.proofs.lemmas.Bool.Decides.{nat_tests}
use Rattle.qbf.specs.Lists.{In}
use Rattle.qbf.specs.Clauses.{Rising, Canonical, union}
use Rattle.sets.specs.Ordered.{placed, clause_of}
use Rattle.sets.specs.Formed.{formed, forming, FormedStands}
use Rattle.sets.proofs.Words.{all_in}
use Rattle.sets.proofs.Order.{all_union, in_union, union_left, union_right}
use Rattle.sets.proofs.Placed.{rising_clause}
use Rattle.sets.proofs.Forms.{canonical_union, one_form}
use Rattle.sets.proofs.Lengths.{length_union}

pub canonical_one : (c : List ℕ) → Canonical (clause_of c ∷ [])
canonical_one c = ((rising_clause c, tt), (tt, tt))

pub canonical_formed : (s cs : List (List ℕ)) → Canonical s → Canonical (formed s cs)
canonical_formed s [] h = h
canonical_formed s (c ∷ cs) h = canonical_formed (union (clause_of c ∷ []) s) cs (canonical_union (clause_of c ∷ []) s (canonical_one c) h)

pub canonical_forming : (s cs : List (List ℕ)) → Canonical s → AllByRecursion Canonical (forming s cs)
canonical_forming s [] h = tt
canonical_forming s (c ∷ cs) h =
    let u = canonical_union (clause_of c ∷ []) s (canonical_one c) h in
    (canonical_one c, (u, canonical_forming (union (clause_of c ∷ []) s) cs u))

pub length_formed : (s cs : List (List ℕ)) → length (formed s cs) ≤ length s + length cs
length_formed s [] = omega arith
length_formed s (c ∷ cs) =
    let u = length_union (clause_of c ∷ []) s in
    let ih = length_formed (union (clause_of c ∷ []) s) cs in
    omega arith

pub all_formed : (P : List ℕ → Type 0) (s cs : List (List ℕ)) → AllByRecursion P s → AllByRecursion (λ c. P (clause_of c)) cs → AllByRecursion P (formed s cs)
all_formed P s [] h k = h
all_formed P s (c ∷ cs) h k = all_formed P (union (clause_of c ∷ []) s) cs (all_union P (clause_of c ∷ []) s (k.0, tt) h) k.1

-- a clause of the set was there, or is stored
abbrev Stored : List ℕ → List (List ℕ) → Type 0
Stored d cs = (c : List ℕ) × In c cs × (d ≡ clause_of c)

pub in_formed : (d : List ℕ) (s cs : List (List ℕ)) → In d (formed s cs) → In d s ⊎ Stored d cs
in_formed d s [] i = inl i
in_formed d s (c ∷ cs) i = elim (in_formed d (union (clause_of c ∷ []) s) cs i) [
  | inl j ↦ elim (in_union d (clause_of c ∷ []) s j) [ inl k ↦ inr (c, inl refl, elim k [ inl e ↦ e | inr z ↦ absurd z ]) | inr k ↦ inl k ]
  | inr r ↦ inr (r.0, inr r.1, r.2)
]

pub formed_left : (d : List ℕ) (s cs : List (List ℕ)) → In d s → In d (formed s cs)
formed_left d s [] i = i
formed_left d s (c ∷ cs) i = formed_left d (union (clause_of c ∷ []) s) cs (union_right d (clause_of c ∷ []) s i)

pub formed_right : (d : List ℕ) (s cs : List (List ℕ)) (c : List ℕ) → In c cs → d ≡ clause_of c → In d (formed s cs)
formed_right d s [] c i e = absurd i
formed_right d s (b ∷ cs) c (inl f) e = formed_left d (union (clause_of b ∷ []) s) cs (union_left d (clause_of b ∷ []) s (inl (e ∙ ap clause_of f)))
formed_right d s (b ∷ cs) c (inr i) e = formed_right d (union (clause_of b ∷ []) s) cs c i e

-- codes that rise are a clause as they are
pub clause_rising : (c : List ℕ) → Rising c → clause_of c ≡ c
clause_rising [] r = refl
clause_rising (x ∷ c) r = ap (placed x) (clause_rising c r.1) ∙ first c r.0
  where
    first : (c : List ℕ) → AllByRecursion (λ y. x < y) c → placed x c ≡ x ∷ c
    first [] a = refl
    first (y ∷ c) a = let l = a.0 in grind (arith, nat_tests)

pub formed_same : (s : List (List ℕ)) → Canonical s → formed [] s ≡ s
formed_same s h = one_form (formed [] s) s (canonical_formed [] s (tt, tt)) h (λ d. (
  λ i. elim (in_formed d [] s i) [ inl z ↦ absurd z | inr r ↦ subst (λ e. In e s) (sym (r.2 ∙ clause_rising r.0 (all_in Rising s r.0 h.0 r.1))) r.1 ],
  λ i. formed_right d [] s d i (sym (clause_rising d (all_in Rising s d h.0 i))),
))

pub formed_stands_lem : FormedStands
formed_stands_lem cs = record {
  canonical = canonical_formed [] cs (tt, tt);
  steps_canonical = canonical_forming [] cs (tt, tt);
  members = λ d. (λ i. elim (in_formed d [] cs i) [ inl z ↦ absurd z | inr r ↦ r ], λ r. formed_right d [] cs r.0 r.1 r.2);
  few = let l = length_formed [] cs in omega arith;
  same = formed_same cs;
}
