-- The set that stored clauses form has the value that they have as they stand.
use Rattle.std.proofs.Common.{◌≡◌, ℕ, List, [], sym, refl, ap, ◌∙◌}
use Rattle.qbf.specs.declared.Quantifier.{Quantifier}
use Rattle.qbf.specs.Lists.{mem}
use Rattle.qbf.specs.Value.{value}
use Rattle.sets.specs.Ordered.{clause_of}
use Rattle.sets.specs.Formed.{formed}
use Rattle.sets.proofs.Words.{mem_in, in_mem}
use Rattle.sets.proofs.Placed.{mem_clause}
use Rattle.sets.proofs.Formed.{formed_stands_lem}
use Rattle.theory.proofs.Truths.{same_bool, value_mono, Covers, covers_entails}

module _ (cs : List (List ℕ)) where
  -- each clause of the one holds the literals of a clause of the other
  formed_covers : Covers (formed [] cs) cs
  formed_covers c i =
      let there = ((formed_stands_lem cs).members (clause_of c)).1 (c, i, refl) in
      (clause_of c, there, λ x k. mem_in x c (sym (mem_clause x c) ∙ in_mem x (clause_of c) k))

  covers_formed : Covers cs (formed [] cs)
  covers_formed d i =
      let from = ((formed_stands_lem cs).members d).0 i in
      let c : List ℕ = from.0 in
      (c, from.1, λ x k. mem_in x d (ap (mem x) from.2 ∙ mem_clause x c ∙ in_mem x c k))

pub value_formed : (qs : List Quantifier) (cs : List (List ℕ)) → value qs 0 (formed [] cs) ≡ value qs 0 cs
value_formed qs cs =
    same_bool (value qs 0 (formed [] cs)) (value qs 0 cs)
    (value_mono qs 0 (formed [] cs) cs (covers_entails (formed [] cs) cs (formed_covers cs)))
    (value_mono qs 0 cs (formed [] cs) (covers_entails cs (formed [] cs) (covers_formed cs)))
