-- Setting a literal by four sets is setting it clause by clause.
use Rattle.std.proofs.Common.{◌≡◌, ℕ, false, List, [], ◌∷◌, sym, refl, subst, inl, inr, arith}
use Rattle.std.specs.List.{AllByRecursion}
use Rattle.std.proofs.lemmas.Bool.{cases_Bool}
use Rattle.std.proofs.lemmas.Bool.Decides.{nat_tests}
use Rattle.qbf.specs.declared.Quantifier.{Quantifier}
use Rattle.qbf.specs.Literals.{complement}
use Rattle.qbf.specs.Lists.{mem, without, In}
use Rattle.qbf.specs.Value.{assign, value}
use Rattle.qbf.specs.Clauses.{Canonical, lacking, assigned, setting}
use Rattle.sets.proofs.Words.{mem_not, not_mem}
use Rattle.sets.proofs.Members.{assigned_members}
use Rattle.sets.proofs.Forms.{forms_stay}
use Rattle.theory.proofs.Truths.{value_as_set}

in_assign : (l : ℕ) (x : List ℕ) (s : List (List ℕ)) → In x (assign l s) → (c : List ℕ) × In c s × (mem l c ≡ false) × (x ≡ without (complement l) c)
in_assign l x [] h = absurd h
in_assign l x (c ∷ s) h =
    let ih = in_assign l x s in
    elim (cases_Bool (mem l c)) [
      | inl e ↦ let r = ih (rw e at h) in (r.0, inr r.1, r.2, r.3)
      | inr e ↦ elim (rw e at h) [ inl f ↦ (c, inl refl, e, f) | inr i ↦ let r = ih i in (r.0, inr r.1, r.2, r.3) ]
    ]

assign_in : (l : ℕ) (c : List ℕ) (s : List (List ℕ)) → In c s → mem l c ≡ false → In (without (complement l) c) (assign l s)
assign_in l c [] h e = absurd h
assign_in l c (d ∷ s) h e = let ih = assign_in l c s in grind (arith, nat_tests)

module _ (l : ℕ) (s : List (List ℕ)) where
  pub assigned_less : (x : List ℕ) → In x (assigned l s) → In x (assign l s)
  assigned_less x h =
      let r = (assigned_members l x s).0 h in
      subst (λ d. In d (assign l s)) (sym r.3) (assign_in l r.0 s r.1 (not_mem l r.0 r.2))

  pub assigned_more : (x : List ℕ) → In x (assign l s) → In x (assigned l s)
  assigned_more x h =
      let r = in_assign l x s h in
      (assigned_members l x s).1 (r.0, r.1, mem_not l r.0 r.2, r.3)

  pub value_assigned_set : (qs : List Quantifier) (v : ℕ) → value qs v (assigned l s) ≡ value qs v (assign l s)
  value_assigned_set qs v = value_as_set qs v (assigned l s) (assign l s) assigned_less assigned_more

-- the sets that a setting makes keep the one form
pub setting_canonical : (l : ℕ) (s : List (List ℕ)) → Canonical s → AllByRecursion Canonical (setting l s)
setting_canonical l s h =
    let one = forms_stay l s s h h in
    let two = forms_stay (complement l) (lacking l s) s one.in_lacking h in
    (one.in_lacking, (two.in_taken_out, (two.in_lacking, (one.in_assigned, tt))))
