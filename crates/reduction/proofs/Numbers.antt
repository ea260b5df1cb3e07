-- The list of the sets that the numbers of a table stand for.
use Rattle.std.proofs.Common.{◌≡◌, ℕ, zero, suc, ◌+◌, ◌-◌, ◌<◌, ◌≤◌, List, ◌++◌, length, Some, sym, refl, ap, ◌∙◌, inl, inr, arith}
use Rattle.std.specs.List.{AllByRecursion}
use Rattle.std.proofs.lemmas.Bool.{cases_eq}
use Rattle.qbf.specs.Lists.{In, Distinct}
use Rattle.qbf.specs.Numbering.{nth}
use Rattle.table.specs.declared.table.Table.{Table}
use Rattle.table.specs.Tables.{size_of, Number, clauses}
use Rattle.table.proofs.Tables.{ends_stand, numbers_apart}
use Rattle.reduction.specs.Numbered.{sets_from, sets_of, NumbersStand}

length_from : (t : Table) (n k : ℕ) → length (sets_from t n k) ≡ k
unfolding sets_from
length_from t n zero = refl
length_from t n (suc k) = ap suc (length_from t (suc n) k)

pub length_sets : (t : Table) → length (sets_of t) ≡ size_of t
unfolding sets_of
length_sets t = length_from t 2 (size_of t)

-- what holds of the set of each number holds of all of them
pub each_from : (t : Table) (P : List (List ℕ) → Type 0) (n k : ℕ) → ((m : ℕ) → n ≤ m → m < n + k → P (clauses t m)) → AllByRecursion P (sets_from t n k)
unfolding sets_from
each_from t P n zero h = tt
each_from t P n (suc k) h = (h n (omega arith) (omega arith), each_from t P (suc n) k (λ m a b. h m (omega arith) (omega arith)))

distinct_from : (t : Table) (n k : ℕ) → n + k ≤ size_of t + 2 → Distinct (sets_from t n k)
unfolding sets_from
distinct_from t n zero h = tt
distinct_from t n (suc k) h = (
  each_from t (λ y. clauses t n ≡ y → ⊥) (suc n) k (λ m a b e. let same = numbers_apart t n m (omega arith) (omega arith) e in omega arith),
  distinct_from t (suc n) k (omega arith),
)

pub distinct_sets : (t : Table) → Distinct (sets_of t)
unfolding sets_of
distinct_sets t = distinct_from t 2 (size_of t) (omega arith)

in_from : (t : Table) (n k m : ℕ) → n ≤ m → m < n + k → In (clauses t m) (sets_from t n k)
unfolding sets_from
in_from t n zero m a b = absurd (let no : ⊥ = omega arith in no)
in_from t n (suc k) m a b = elim (cases_eq m n) [
  | inl e ↦ inl (ap (clauses t) e)
  | inr ne ↦ inr (in_from t (suc n) k m (omega arith) (omega arith))
]

-- the set of each node's number is in the list
pub in_sets : (t : Table) (m : ℕ) → 2 ≤ m → Number t m → In (clauses t m) (sets_of t)
unfolding sets_of
in_sets t m two h = in_from t 2 (size_of t) m two (omega arith)

from_in : (t : Table) (n k : ℕ) (x : List (List ℕ)) → In x (sets_from t n k) → (m : ℕ) × (m < n + k) × (clauses t m ≡ x)
unfolding sets_from
from_in t n zero x i = absurd i
from_in t n (suc k) x (inl e) = (n, omega arith, sym e)
from_in t n (suc k) x (inr i) = let r = from_in t (suc n) k x i in (r.0, omega (arith, r.1), r.2)

-- and each set of the list has a number
pub sets_in : (t : Table) (x : List (List ℕ)) → In x (sets_of t) → (m : ℕ) × Number t m × (clauses t m ≡ x)
unfolding sets_of
sets_in t x i = let r = from_in t 2 (size_of t) x i in (r.0, omega (arith, r.1), r.2)

-- a table that has grown has the sets that it had, and more behind them
grown_from : (t u : Table) (n j k : ℕ) → ((m : ℕ) → n ≤ m → m < n + j → clauses u m ≡ clauses t m) → sets_from u n (j + k) ≡ sets_from t n j ++ sets_from u (n + j) k
unfolding sets_from
grown_from t u n zero k h = let a : n + 0 ≡ n = omega arith in let b : 0 + k ≡ k = omega arith in rw (a, b)
grown_from t u n (suc j) k h =
    let a : suc j + k ≡ suc (j + k) = omega arith in
    let b : n + suc j ≡ suc n + j = omega arith in
    let head = h n (omega arith) (omega arith) in
    let rest = grown_from t u (suc n) j k (λ m l i. h m (omega arith) (omega arith)) in
    rw (a, b, head, rest)

pub grown_sets : (t u : Table) → size_of t ≤ size_of u → ((m : ℕ) → Number t m → clauses u m ≡ clauses t m) → sets_of u ≡ sets_of t ++ sets_from u (size_of t + 2) (size_of u - size_of t)
unfolding sets_of
grown_sets t u more h =
    let added : ℕ = size_of u - size_of t in
    let a : size_of u ≡ size_of t + added = omega arith in
    let b : 2 + size_of t ≡ size_of t + 2 = omega arith in
    ap (sets_from u 2) a ∙ grown_from t u 2 (size_of t) added (λ m l i. h m (omega arith)) ∙ ap (λ (n : ℕ). sets_from t 2 (size_of t) ++ sets_from u n added) b

nth_from : (t : Table) (n k i : ℕ) → i < k → nth (sets_from t n k) i ≡ Some (clauses t (n + i))
unfolding sets_from
nth_from t n zero i h = absurd (let no : ⊥ = omega arith in no)
nth_from t n (suc k) zero h = ap (λ m. Some (clauses t m)) (omega arith)
nth_from t n (suc k) (suc i) h = nth_from t (suc n) k i (omega arith) ∙ ap (λ m. Some (clauses t m)) (omega arith)

pub numbers_stand_lem : NumbersStand
unfolding sets_of
numbers_stand_lem t zero h = ap Some (sym (ends_stand t).0)
numbers_stand_lem t (suc zero) h = ap Some (sym (ends_stand t).1)
numbers_stand_lem t (suc (suc i)) h = nth_from t 2 (size_of t) i (omega arith) ∙ ap (λ m. Some (clauses t m)) (omega arith)
