-- What the tests of the lines tell, and the lowest number that passes a test.
use Rattle.std.proofs.Common.{◌≡◌, ℕ, zero, suc, ◌+◌, ◌<◌, ◌≤◌, Bool, true, false, List, [], ◌∷◌, length, Some, None, Option, refl, inl, inr, arith}
use Rattle.std.proofs.lemmas.Bool.Decides.{nat_tests}
use Rattle.std.proofs.lemmas.Bool.{cases_eq, cases_Bool}
use Rattle.qbf.specs.declared.Quantifier.{Quantifier}
use Rattle.qbf.specs.declared.Quantifier.TheVariants.{Existential, Universal}
use Rattle.qbf.specs.Lists.{mem, In}
use Rattle.qbf.specs.Reduce.{binds, has_empty, has_unit, occurs, lowest, Step, on_some}

pub binds_one : (prefix : List Quantifier) (x : ℕ) → x < length prefix → binds Existential prefix x ≡ false → binds Universal prefix x ≡ true
binds_one [] x h e = absurd (omega arith)
binds_one (r ∷ prefix) zero h e = grind (arith, nat_tests)
binds_one (r ∷ prefix) (suc x) h e = binds_one prefix x (omega arith) e

pub empty_from : (s : List (List ℕ)) → has_empty s ≡ true → In [] s
empty_from [] e = grind (arith, nat_tests)
empty_from ([] ∷ s) e = inl refl
empty_from ((x ∷ c) ∷ s) e = inr (empty_from s e)

pub unit_from : (l : ℕ) (s : List (List ℕ)) → has_unit l s ≡ true → In (l ∷ []) s
unit_from l [] e = grind (arith, nat_tests)
unit_from l ([] ∷ s) e = inr (unit_from l s e)
unit_from l ((x ∷ []) ∷ s) e = let ih = unit_from l s in grind (arith, nat_tests)
unit_from l ((x ∷ y ∷ c) ∷ s) e = let ih = unit_from l s in grind (arith, nat_tests)

pub lowest_passes : (test : ℕ → Bool) (n c l : ℕ) → lowest test n c ≡ Some l → test l ≡ true
lowest_passes test zero c l e = grind (arith, nat_tests)
lowest_passes test (suc n) c l e = let ih = lowest_passes test n (suc c) l in grind (arith, nat_tests)

pub lowest_below : (test : ℕ → Bool) (n c l : ℕ) → lowest test n c ≡ Some l → l < c + n
lowest_below test zero c l e = grind (arith, nat_tests)
lowest_below test (suc n) c l e = let ih = lowest_below test n (suc c) l in grind (arith, nat_tests)

pub lowest_least : (test : ℕ → Bool) (n c l : ℕ) → lowest test n c ≡ Some l → (m : ℕ) → c ≤ m → m < l → test m ≡ false
lowest_least test zero c l e m a b = grind (arith, nat_tests)
lowest_least test (suc n) c l e m a b = let ih = lowest_least test n (suc c) l in let w = cases_eq c m in grind (arith, nat_tests)

pub lowest_none : (test : ℕ → Bool) (n c : ℕ) → lowest test n c ≡ None → (m : ℕ) → c ≤ m → m < c + n → test m ≡ false
lowest_none test zero c e m a b = absurd (omega arith)
lowest_none test (suc n) c e m a b = let ih = lowest_none test n (suc c) in let w = cases_eq c m in grind (arith, nat_tests)

pub on_some_both : (P : Step → Type 0) (o : Option ℕ) (f : ℕ → Step) (other : Step) → ((l : ℕ) → o ≡ Some l → P (f l)) → (o ≡ None → P other) → P (on_some o f other)
on_some_both P (Some l) f other h k = h l refl
on_some_both P None f other h k = k refl

-- what is in the clauses of a set goes by its clauses
pub occurs_in : (l : ℕ) (s : List (List ℕ)) → occurs l s ≡ true → (c : List ℕ) × In c s × (mem l c ≡ true)
occurs_in l [] e = grind (arith, nat_tests)
occurs_in l (c ∷ s) e = elim (cases_Bool (mem l c)) [
  | inl t ↦ (c, inl refl, t)
  | inr f ↦ let r = occurs_in l s (grind (arith, nat_tests)) in (r.0, inr r.1, r.2)
]

pub in_occurs : (l : ℕ) (s : List (List ℕ)) (c : List ℕ) → In c s → mem l c ≡ true → occurs l s ≡ true
in_occurs l [] c h e = absurd h
in_occurs l (d ∷ s) c h e = let ih = in_occurs l s c in grind (arith, nat_tests)
