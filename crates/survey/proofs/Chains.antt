-- The chain of a set's without-sides.
use Rattle.std.proofs.Common.{◌≡◌, ℕ, ◌<◌, Bool, true, false, eqb, ◌⊎◌, List, [], ◌∷◌, length, get_or, set, replicate, Decides, sym, refl, ap, ◌∙◌, subst, inl, inr, arith}
use Rattle.std.specs.List.{AllByRecursion}
use Rattle.std.proofs.lemmas.Bool.Decides.{nat_tests}
use Rattle.std.proofs.lemmas.Bool.{cases_eq}
use Rattle.std.proofs.lemmas.List.{get_or-set_same, get_or-set_other, get_or-replicate}
use Rattle.qbf.specs.Lists.{In}
use Rattle.sets.proofs.Words.{all_in}
use Rattle.sets.proofs.Joined.{empty_joined, joined_low, joined_high, in_joined}
use Rattle.table.specs.declared.set.Set.{Set}
use Rattle.table.specs.declared.set.reading.Branches.{Branches}
use Rattle.table.specs.Tables.{clauses}
use Rattle.table.specs.Sets.{clauses_of, Branched}
use Rattle.table.proofs.Tables.{ends_stand, small_over}
use Rattle.survey.specs.Surveyed.{UnitsOf}

-- the empty clause is in the set m exactly if it is in s
pub record Alike (s m : Set) : Type 0 where
  pub there : In [] (clauses_of s) → In [] (clauses_of m)
  pub back : In [] (clauses_of m) → In [] (clauses_of s)

pub alike_itself : (s : Set) → Alike s s
alike_itself s = record { there = λ i. i; back = λ i. i }

pub alike_without : (s m : Set) (b : Branches) → Branched m b → Alike s m → Alike s b.without
alike_without s m b o a = record {
  there = λ i. empty_joined b.code (clauses_of b.with) (clauses_of b.without) (subst (In []) o.means (a.there i));
  back = λ i. a.back (subst (In []) (sym o.means) (joined_low b.code [] (clauses_of b.with) (clauses_of b.without) i));
}

pub alike_end : (s m : Set) → m.number < 2 → Alike s m → Decides (eqb m.number 1) (In [] (clauses_of s))
alike_end s m two a =
    let t = m.table.now in (
      λ e. let one : m.number ≡ 1 = grind (arith, nat_tests) in a.back (subst (In []) (sym (ap (clauses t) one ∙ (ends_stand t).1)) (inl refl)),
      λ i. elim (cases_eq m.number 1) [
        | inl e ↦ grind (arith, nat_tests)
        | inr ne ↦ absurd (let e : m.number ≡ 0 = omega arith in let j : In {A = List ℕ} [] [] = subst (In []) (ap (clauses t) e ∙ (ends_stand t).0) (a.there i) in j)
      ],
    )

-- a one-literal clause of the set s is marked, or still ahead in the set m
pub record Found (s : Set) (at : List Bool) (m : Set) : Type 0 where
  pub there : (l : ℕ) → l < 512 → In (l ∷ []) (clauses_of s) → (get_or at l false ≡ true) ⊎ In (l ∷ []) (clauses_of m)
  pub back : (l : ℕ) → l < 512 → (get_or at l false ≡ true) ⊎ In (l ∷ []) (clauses_of m) → In (l ∷ []) (clauses_of s)

pub found_none : (s : Set) → Found s (replicate 512 false) s
found_none s = record {
  there = λ l _ i. inr i;
  back = λ l low. elim [ inl e ↦ absurd (let f = get_or-replicate 512 l false false low in let no : ⊥ = grind (arith, nat_tests) in no) | inr i ↦ i ];
}

module _ (s : Set) (at : List Bool) (m : Set) (b : Branches) (o : Branched m b) (f : Found s at m) where
  split : (l : ℕ) → In (l ∷ []) (clauses_of m) → ((l ≡ b.code) × In [] (clauses_of b.with)) ⊎ In (l ∷ []) (clauses_of b.without)
  split l i = in_joined b.code l [] (clauses_of b.with) (clauses_of b.without) (subst (In (l ∷ [])) o.means i)

  later : (l : ℕ) → In (l ∷ []) (clauses_of b.without) → In (l ∷ []) (clauses_of m)
  later l i = subst (In (l ∷ [])) (sym o.means) (joined_low b.code (l ∷ []) (clauses_of b.with) (clauses_of b.without) i)

  -- the code is no clause of its own
  pub found_past : (In [] (clauses_of b.with) → ⊥) → Found s at b.without
  found_past lacks = record {
    there = λ l low i. elim (f.there l low i) [ inl e ↦ inl e | inr j ↦ elim (split l j) [ inl k ↦ absurd (lacks k.1) | inr k ↦ inr k ] ];
    back = λ l low. elim [ inl e ↦ f.back l low (inl e) | inr i ↦ f.back l low (inr (later l i)) ];
  }

  -- it is one
  pub found_here : length at ≡ 512 → In [] (clauses_of b.with) → Found s (set at b.code true) b.without
  found_here long yes-in =
      let low_code = o.coded in
      let same : get_or (set at b.code true) b.code false ≡ true = get_or-set_same at b.code true false (omega arith) in
      let other : (l : ℕ) → (l ≡ b.code → ⊥) → get_or (set at b.code true) l false ≡ get_or at l false = λ l ne. get_or-set_other at b.code l true false ne in
      record {
        there = λ l low i. elim (cases_eq l b.code) [
          | inl e ↦ inl (ap (λ j. get_or (set at b.code true) j false) e ∙ same)
          | inr ne ↦ elim (f.there l low i) [ inl e ↦ inl (other l ne ∙ e) | inr j ↦ elim (split l j) [ inl k ↦ absurd (ne k.0) | inr k ↦ inr k ] ]
        ];
        back = λ l low. elim [
          | inl e ↦ elim (cases_eq l b.code) [
            | inl at ↦ f.back l low (inr (subst (λ j. In (j ∷ []) (clauses_of m)) (sym at) (subst (In (b.code ∷ [])) (sym o.means) (joined_high b.code [] (clauses_of b.with) (clauses_of b.without) yes-in))))
            | inr ne ↦ f.back l low (inl (sym (other l ne) ∙ e))
          ]
          | inr i ↦ f.back l low (inr (later l i))
        ];
      }

pub found_end : (s : Set) (at : List Bool) (m : Set) → m.number < 2 → Found s at m → UnitsOf (clauses_of s) at
found_end s at m two f l low = (
  λ e. f.back l low (inl e),
  λ i. elim (f.there l low i) [
    | inl e ↦ e
    | inr j ↦ absurd (let own : AllByRecursion (λ y. l < y) (l ∷ []) = all_in (AllByRecursion (λ y. l < y)) (clauses_of m) (l ∷ []) (small_over m.table.now m.number l two) j in let no : ⊥ = omega (arith, own.0) in no)
  ],
)
