-- The preferred candidate is unbeaten, and an unbeaten one has its position.
use Rattle.std.specs.Prelude.{◌≡◌, ℕ, ◌≤◌, Bool, false, List, [], ◌∷◌, refl}
use Rattle.std.proofs.Common.{get_or, subst, arith}
use Rattle.std.specs.List.{All, Any, Contains, best_of}
use Rattle.std.specs.Cmp.{IsStrictWeakOrder}
use Rattle.std.proofs.lemmas.List.MinMax.{IsStrictWeakOrder-by_number, IsFirstBest-from_best_of}
use Rattle.std.proofs.lemmas.List.Elements.{All-from_get_or, All-contains, Contains-get_or, recursion_from_All}
use Rattle.std.proofs.ByRecursion.{All-weaker}
use Rattle.std.proofs.lemmas.Bool.{ltb-false}
use Rattle.std.proofs.lemmas.Bool.Decides.{nat_tests}
use Rattle.qbf.specs.declared.Candidate.{Candidate}
use Rattle.choosers.specs.Preferred.{lower, busier, first_picks, busiest_picks}
use Rattle.choosers.specs.Laws.{FirstLowest, BusiestLargest}
use Rattle.choosers.specs.Listings.{best_in, first_listed}

lower_ranks : IsStrictWeakOrder lower
lower_ranks = IsStrictWeakOrder-by_number (λ c. c.position)

busier_ranks : IsStrictWeakOrder busier
busier_ranks = record {
  one_way = λ x y h. grind (arith, nat_tests);
  chain = λ x y z h l. grind (arith, nat_tests);
}

module _ (beats : Candidate → Candidate → Bool) (ranks : IsStrictWeakOrder beats) (c : Candidate) (cs : List Candidate) where
  best_unbeaten : All (λ d. beats d (best_of beats c cs) ≡ false) (c ∷ cs)
  best_unbeaten =
      let b = IsFirstBest-from_best_of ranks c cs in
      subst (λ x. All (λ d. beats d x ≡ false) (c ∷ cs)) b.2 (All-from_get_or (λ d. beats d (get_or (c ∷ cs) b.0 c) ≡ false) (c ∷ cs) c (λ k h. b.1.1 k c h))

  best_contained : Contains (c ∷ cs) (best_of beats c cs)
  best_contained =
      let b = IsFirstBest-from_best_of ranks c cs in
      subst (λ x. Contains (c ∷ cs) x) b.2 (Contains-get_or (c ∷ cs) b.0 c b.1.0)

  beats_no_best : (b : Candidate) → Contains (c ∷ cs) b → beats b (best_of beats c cs) ≡ false
  beats_no_best b there = All-contains (λ d. beats d (best_of beats c cs) ≡ false) (c ∷ cs) b best_unbeaten there

pub first_lowest : FirstLowest
first_lowest [] h = absurd (omega arith)
first_lowest (c ∷ cs) h = record {
  listed = first_listed (c ∷ cs) h;
  lowest = All-weaker _ _ (λ d e. ltb-false _ _ e) (c ∷ cs) (recursion_from_All _ (c ∷ cs) (best_unbeaten lower lower_ranks c cs));
}

pub busiest_largest : BusiestLargest
busiest_largest [] h = absurd (omega arith)
busiest_largest (c ∷ cs) h =
    let unbeaten = recursion_from_All (λ d. busier d (best_of busier c cs) ≡ false) (c ∷ cs) (best_unbeaten busier busier_ranks c cs) in
    record {
      pick = best_of busier c cs;
      listed = best_in busier c cs;
      position = refl;
      largest = All-weaker _ _ (λ d e. grind (arith, nat_tests)) (c ∷ cs) unbeaten;
      lowest = All-weaker _ _ (λ d e same. grind (arith, nat_tests)) (c ∷ cs) unbeaten;
    }

-- what a search for the least position, and one for the busiest candidate, find
pub first_found : (cs : List Candidate) (p : ℕ) → Any (λ d. d.position ≡ p) cs → All (λ d. p ≤ d.position) cs → p ≡ first_picks cs
first_found [] p there least = absurd (omega (arith, there.2))
first_found (c ∷ cs) p there least =
    let low : p ≤ first_picks (c ∷ cs) = All-contains (λ d. p ≤ d.position) (c ∷ cs) _ least (best_contained lower lower_ranks c cs) in
    let high : first_picks (c ∷ cs) ≤ there.1.position = ltb-false _ _ (beats_no_best lower lower_ranks c cs there.1 (there.0, there.2, there.3)) in
    omega (arith, there.4)

pub busiest_found : (cs : List Candidate) (b : Candidate) → Contains cs b → All (λ d. busier d b ≡ false) cs → b.position ≡ busiest_picks cs
busiest_found [] b there unbeaten = absurd (omega (arith, there.1))
busiest_found (c ∷ cs) b there unbeaten =
    let low : busier (best_of busier c cs) b ≡ false = All-contains (λ d. busier d b ≡ false) (c ∷ cs) _ unbeaten (best_contained busier busier_ranks c cs) in
    let high : busier b (best_of busier c cs) ≡ false = beats_no_best busier busier_ranks c cs b there in
    grind (arith, nat_tests)
