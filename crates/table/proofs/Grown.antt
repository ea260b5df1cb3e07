-- How a table grows.
use Rattle.std.proofs.Common.{◌≡◌, ℕ, ◌+◌, ◌<◌, List, [], ◌∷◌, sym, refl, ap, ◌∙◌, subst, inl, inr, arith}
use Rattle.std.proofs.lemmas.Bool.{cases_lt}
use Rattle.qbf.specs.Lists.{In}
use Rattle.qbf.specs.Nodes.{Node as NodeOf, node_itself}
use Rattle.sets.specs.Sides.{Over, joined}
use Rattle.table.specs.declared.table.Table.{Table}
use Rattle.table.specs.Places.{node_at}
use Rattle.table.specs.Tables.{nodes_of, size_of, Number, clauses, Is, Held, Adds, Misses}
use Rattle.table.proofs.Families.{family_extends}
use Rattle.table.proofs.Stores.{Joins, fresh}
use Rattle.table.proofs.Canon.{absent}
use Rattle.table.proofs.Tables.{own_node, has_clause, nodes_held}

pub adds_same : (t : Table) (sets : List (List (List ℕ))) → Adds t sets t
adds_same t sets = record { larger = omega arith; keeps = λ n h. refl; gains = λ n l h. absurd (let no : ⊥ = omega arith in no) }

-- a number stays, with its set
pub is_kept : (t : Table) (sets : List (List (List ℕ))) (u : Table) → Adds t sets u → (s : List (List ℕ)) (n : ℕ) → Is s t n → Is s u n
is_kept t sets u g s n i = record { held = omega (arith, g.larger, i.held); means = g.keeps n i.held ∙ i.means }

pub held_kept : (t : Table) (sets : List (List (List ℕ))) (u : Table) → Adds t sets u → (s : List (List ℕ)) → Held t s → Held u s
held_kept t sets u g s h = (h.0, is_kept t sets u g s h.0 h.1)

-- each node of the sets of one list is a node of a set of the other
abbrev pub Within : List (List (List ℕ)) → List (List (List ℕ)) → Type 0
Within sets more = (x s : List (List ℕ)) → In s sets → NodeOf x s → (r : List (List ℕ)) × In r more × NodeOf x r

pub adds_widen : (t : Table) (sets : List (List (List ℕ))) (u : Table) (more : List (List (List ℕ))) → Within sets more → Adds t sets u → Adds t more u
adds_widen t sets u more wide g = record { larger = g.larger; keeps = g.keeps; gains = λ n l h. let r = g.gains n l h in wide (clauses u n) r.0 r.1 r.2 }

pub adds_then : (t : Table) (sets : List (List (List ℕ))) (u : Table) (w : Table) → Adds t sets u → Adds u sets w → Adds t sets w
adds_then t sets u w g h = record {
  larger = omega (arith, g.larger, h.larger);
  keeps = λ n i. h.keeps n (omega (arith, g.larger)) ∙ g.keeps n i;
  gains = λ n l i. elim (cases_lt n (size_of u + 2)) [
    | inl j ↦ (let r = g.gains n l j in (r.0, r.1, subst (λ x. NodeOf x r.0) (sym (h.keeps n j)) r.2))
    | inr j ↦ h.gains n j i
  ];
}

pub misses_widen : (s : List (List ℕ)) (t : Table) (r : List (List ℕ)) → ((x : List (List ℕ)) → NodeOf x s → NodeOf x r) → Misses s t → Misses r t
misses_widen s t r wide m = record { full = m.full; part = m.part; of_it = wide m.part m.of_it; absent = m.absent }

-- a table without room for a set lacks the set
pub misses_lacks : (s : List (List ℕ)) (t : Table) → Misses s t → Held t s → ⊥
misses_lacks s t m h = m.absent (nodes_held t s m.part h m.of_it)

-- what a making of one node leaves

module _ (t : Table) (code hi lo : ℕ) where
  pub joined_is : (u : Table) (n : ℕ) → Joins (nodes_of t) code hi lo (nodes_of u) n → Is (joined code (clauses t hi) (clauses t lo)) u n
  unfolding clauses
  joined_is u n j = record { held = j.held; means = j.means }

  pub joined_adds : (u : Table) (n : ℕ) → Joins (nodes_of t) code hi lo (nodes_of u) n → Adds t (joined code (clauses t hi) (clauses t lo) ∷ []) u
  unfolding clauses
  joined_adds u n j = record {
    larger = j.extends.grows;
    keeps = λ m h. family_extends j.extends m h;
    gains = λ m l h.
        let o = j.only (omega arith) in
        let at : m ≡ n = omega arith in
        (joined code (clauses t hi) (clauses t lo), inl refl, subst (NodeOf (clauses u m)) (ap (clauses u) at ∙ j.means) (own_node u m h (omega arith)));
  }

  pub joined_misses : size_of t ≡ 4096 → 0 < hi → Number t hi → Number t lo → Over code (clauses t lo) → ((k : ℕ) → k < size_of t → node_at (nodes_of t) k ≡ fresh code hi lo → ⊥) → Misses (joined code (clauses t hi) (clauses t lo)) t
  unfolding clauses
  joined_misses full pos hi_held lo_held lower lacks =
      let s = joined code (clauses t hi) (clauses t lo) in
      let w = has_clause t hi hi_held pos in
      record {
        full = full;
        part = s;
        of_it = subst (λ z. NodeOf (joined code z (clauses t lo)) (joined code z (clauses t lo))) (sym w.2) (own code w.0 w.1 (clauses t lo));
        absent = λ h. absent _ t.sound code hi lo pos hi_held lo_held lower lacks h.0 h.1.held h.1.means;
      }
    where
      own : (k : ℕ) (c : List ℕ) (cs s : List (List ℕ)) → NodeOf (joined k (c ∷ cs) s) (joined k (c ∷ cs) s)
      own k c cs s = node_itself refl
