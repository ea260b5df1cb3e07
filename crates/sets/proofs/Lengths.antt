-- The operations make no more clauses than they are given.
use Rattle.std.proofs.Common.{◌≡◌, ℕ, ◌+◌, ◌≤◌, not, List, [], ◌∷◌, length, refl, arith}
use Rattle.std.proofs.lemmas.Bool.Decides.{nat_tests}
use Rattle.std.proofs.lemmas.List.{length-map}
use Rattle.std.proofs.lemmas.List.Filters.{length-filter_both}
use Rattle.qbf.specs.Literals.{complement}
use Rattle.qbf.specs.Lists.{mem}
use Rattle.qbf.specs.Clauses.{weave, union, holding, lacking, taken_out}
use Rattle.sets.specs.Laws.{FewMade}

pub length_union : (s t : List (List ℕ)) → length (union s t) ≤ length s + length t
length_union [] t = omega arith
length_union (c ∷ s) t = go (length_union s) t
  where
    go : ((t : List (List ℕ)) → length (union s t) ≤ length s + length t) → (t : List (List ℕ)) → length (weave c (union s) t) ≤ length (c ∷ s) + length t
    go rec [] = let r = rec [] in omega arith
    go rec (d ∷ t) = let r = rec (d ∷ t) in let q = rec t in let i = go rec t in grind (arith, nat_tests)

-- a set is the clauses that hold a literal and those that lack it
pub length_both : (l : ℕ) (s : List (List ℕ)) → length (holding l s) + length (lacking l s) ≡ length s
length_both l s = length-filter_both (mem l) (λ c. not (mem l c)) (λ c. refl) s

pub length_taken_out : (l : ℕ) (s : List (List ℕ)) → length (taken_out l s) ≡ length (holding l s)
length_taken_out l s = simp length-map

pub few_made : FewMade
few_made l s t =
    let r : List (List ℕ) = lacking l s in
    let m : ℕ = complement l in
    let a = length_both l s in
    let b = length_both m r in
    let e = length_taken_out m r in
    let f = length_taken_out l s in
    let u = length_union (taken_out m r) (lacking m r) in
    record { in_union = length_union s t; in_lacking = omega arith; in_taken_out = omega arith; in_assigned = omega arith }
