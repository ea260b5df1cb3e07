-- The bindings of a prefix, as they are lent.
use Rattle.std.proofs.Common.{◌≡◌, ℕ, ◌≤◌, List, length, sym, ap, subst, arith}
use Rattle.arrays.proofs.Fits.{items_fit}
use Rattle.qbf.specs.Walk.{outermost, candidates}
use Rattle.formula.specs.declared.prefix.Binding.{Binding}
use Rattle.formula.specs.declared.prefix.Prefix.{Prefix}
use Rattle.formula.specs.Views.{bindings_of}
use Rattle.reduction.specs.declared.candidates.Candidates.{Candidates}
use Rattle.reduction.specs.Numbered.{quantified, quantifiers_of, Fitting}
use Rattle.reduction.specs.Outcomes.{candidates_of}

module _ (p : Prefix) (bs : List Binding) (lent : bs ≡ bindings_of p) where
  pub few_lent : length bs ≤ 256
  few_lent = let a = ap length lent in let f = items_fit p.bindings in omega arith

  pub fitting_lent : (s : List (List ℕ)) → Fitting (quantifiers_of p) s → Fitting (quantified bs) s
  fitting_lent s f = subst (λ (xs : List Binding). Fitting (quantified xs) s) (sym lent) f

  pub listed_lent : (found : Candidates) (s : List (List ℕ)) → (candidates_of found ≡ candidates (quantified bs) s) × (found.quantifier ≡ (outermost (quantified bs) s).quantifier) →
      (candidates_of found ≡ candidates (quantifiers_of p) s) × (found.quantifier ≡ (outermost (quantifiers_of p) s).quantifier)
  listed_lent found s h = subst (λ (xs : List Binding). (candidates_of found ≡ candidates (quantified xs) s) × (found.quantifier ≡ (outermost (quantified xs) s).quantifier)) lent h
