-- Each operation keeps the one form of a set.
use Rattle.std.proofs.Common.{◌≡◌, ℕ, ◌<◌, ◌≤◌, true, not, List, [], ◌∷◌, arith}
use Rattle.std.specs.List.{AllByRecursion}
use Rattle.std.proofs.lemmas.Bool.Decides.{nat_tests}
use Rattle.std.proofs.ByRecursion.{all_kept_by, All-map, All-weaker}
use Rattle.qbf.specs.Literals.{complement}
use Rattle.qbf.specs.Lists.{mem, without}
use Rattle.qbf.specs.Clauses.{below, Rising, Canonical, union, holding, lacking, taken_out}
use Rattle.sets.specs.Laws.{FormsStay, OneForm, SidesMake}
use Rattle.sets.proofs.Words.{rising_without}
use Rattle.sets.proofs.Order.{all_union, sorted_union, sorted_kept, sorted_taken_out, sorted_same, sides}

pub canonical_union : (s t : List (List ℕ)) → Canonical s → Canonical t → Canonical (union s t)
canonical_union s t h k = (all_union Rising s t h.0 k.0, sorted_union s t h.1 k.1)

pub canonical_lacking : (l : ℕ) (s : List (List ℕ)) → Canonical s → Canonical (lacking l s)
canonical_lacking l s h = (all_kept_by (λ c. not (mem l c)) Rising s h.0, sorted_kept (λ c. not (mem l c)) s h.1)

pub canonical_holding : (l : ℕ) (s : List (List ℕ)) → Canonical s → Canonical (holding l s)
canonical_holding l s h = (all_kept_by (mem l) Rising s h.0, sorted_kept (mem l) s h.1)

pub canonical_taken_out : (l : ℕ) (s : List (List ℕ)) → Canonical s → Canonical (taken_out l s)
canonical_taken_out l s h = (
  All-map Rising (without l) (holding l s) (All-weaker Rising (λ c. Rising (without l c)) (rising_without l) (holding l s) (canonical_holding l s h).0),
  sorted_taken_out l s h,
)

pub forms_stay : FormsStay
forms_stay l s t h k =
    let t' : List (List ℕ) = lacking l s in
    let m : ℕ = complement l in
    let o : Canonical t' = canonical_lacking l s h in
    record {
      in_union = canonical_union s t h k;
      in_lacking = o;
      in_holding = canonical_holding l s h;
      in_taken_out = canonical_taken_out l s h;
      in_assigned = canonical_union (taken_out m t') (lacking m t') (canonical_taken_out m t' o) (canonical_lacking m t' o);
    }

pub one_form : OneForm
one_form s t h k same = sorted_same s t h.1 k.1 (λ c. (same c).0) (λ c. (same c).1)

-- the first code of a set is its lowest
head_lowest : (k : ℕ) (c : List ℕ) (s : List (List ℕ)) → AllByRecursion Rising s → Rising (k ∷ c) → AllByRecursion (λ d. below (k ∷ c) d ≡ true) s → AllByRecursion (AllByRecursion (λ x. k ≤ x)) ((k ∷ c) ∷ s)
head_lowest k c s r rc b = ((omega arith, All-weaker (λ x. k < x) (λ x. k ≤ x) (λ x h. omega arith) c rc.0), rest s r b)
  where
    one : (d : List ℕ) → Rising d → below (k ∷ c) d ≡ true → AllByRecursion (λ x. k ≤ x) d
    one [] r b = tt
    one (y ∷ d) r b = let h : k ≤ y = grind (arith, nat_tests) in (h, All-weaker (λ x. y < x) (λ x. k ≤ x) (λ x g. omega arith) d r.0)

    rest : (s : List (List ℕ)) → AllByRecursion Rising s → AllByRecursion (λ d. below (k ∷ c) d ≡ true) s → AllByRecursion (AllByRecursion (λ x. k ≤ x)) s
    rest [] r b = tt
    rest (d ∷ s) r b = (one d r.0 b.0, rest s r.1 b.1)

pub sides_make : SidesMake
sides_make k c s h = sides k ((k ∷ c) ∷ s) h.1 (head_lowest k c s h.0.1 h.0.0 h.1.0)
