-- A full table that lacks a node is too small for the sets that its nodes are of.
use Rattle.std.proofs.Common.{◌≡◌, ℕ, zero, suc, ◌+◌, ◌<◌, ◌≤◌, List, [], ◌∷◌, length, sym, refl, ap, subst, inl, inr, arith}
use Rattle.std.specs.List.{AllByRecursion}
use Rattle.std.proofs.lemmas.Bool.{cases_lt}
use Rattle.qbf.specs.Lists.{In, Distinct}
use Rattle.qbf.specs.Nodes.{Node as NodeOf}
use Rattle.table.specs.declared.table.Table.{Table}
use Rattle.table.specs.Tables.{size_of, clauses, Adds}
use Rattle.table.specs.Laws.{Weighed, FullCrowds}
use Rattle.table.proofs.Tables.{numbers_apart}

-- the sets of the first k nodes, the last first
stored : Table → ℕ → List (List (List ℕ))
stored t zero = []
stored t (suc k) = clauses t (k + 2) ∷ stored t k

long : (t : Table) (k : ℕ) → length (stored t k) ≡ k
unfolding stored
long t zero = refl
long t (suc k) = ap suc (long t k)

-- what holds of each node's set holds of all of them
each : (t : Table) (P : List (List ℕ) → Type 0) (k : ℕ) → ((n : ℕ) → 2 ≤ n → n < k + 2 → P (clauses t n)) → AllByRecursion P (stored t k)
unfolding stored
each t P zero h = tt
each t P (suc k) h = (h (k + 2) (omega arith) (omega arith), each t P k (λ n l i. h n l (omega arith)))

distinct : (t : Table) (k : ℕ) → k ≤ size_of t → Distinct (stored t k)
unfolding stored
distinct t zero h = tt
distinct t (suc k) h = (
  each t (λ y. clauses t (k + 2) ≡ y → ⊥) k (λ n l i e. let same = numbers_apart t (k + 2) n (omega arith) (omega arith) e in omega arith),
  distinct t k (omega arith),
)

pub full_crowds : FullCrowds
full_crowds t sets s weighed i m =
    let full = m.full in
    record {
      list = m.part ∷ stored t 4096;
      long = let l = long t 4096 in omega arith;
      apart = (each t (λ y. m.part ≡ y → ⊥) 4096 (λ n l h e. m.absent (n, record { held = omega arith; means = sym e })), distinct t 4096 (omega arith));
      nodes = ((s, i, m.of_it), each t (λ x. (r : List (List ℕ)) × In r sets × NodeOf x r) 4096 (λ n l h. weighed n l (omega arith)));
    }

-- how the nodes of a table stay nodes of the sets

pub weighed_none : (t : Table) (sets : List (List (List ℕ))) → size_of t ≡ 0 → Weighed t sets
weighed_none t sets e n l h = absurd (let no : ⊥ = omega arith in no)

pub weighed_more : (t : Table) (sets more : List (List (List ℕ))) → ((s : List (List ℕ)) → In s sets → In s more) → Weighed t sets → Weighed t more
weighed_more t sets more wide w n l h = let r = w n l h in (r.0, wide r.0 r.1, r.2)

pub weighed_adds : (t : Table) (sets made : List (List (List ℕ))) (u : Table) → ((s : List (List ℕ)) → In s made → In s sets) → Weighed t sets → Adds t made u → Weighed u sets
weighed_adds t sets made u wide w g n l h = elim (cases_lt n (size_of t + 2)) [
  | inl i ↦ (let r = w n l i in (r.0, r.1, subst (λ x. NodeOf x r.0) (sym (g.keeps n i)) r.2))
  | inr i ↦ (let r = g.gains n i h in (r.0, wide r.0 r.1, r.2))
]
