-- Tables: what the numbers stand for, and how a table grows.
use Rattle.std.proofs.Common.{◌≡◌, ℕ, zero, suc, ◌+◌, ◌-◌, ◌<◌, ◌≤◌, List, [], ◌∷◌, sym, refl, ap, ◌∙◌, subst, inl, inr, arith}
use Rattle.std.specs.List.{AllByRecursion}
use Rattle.std.proofs.lemmas.List.{length-take}
use Rattle.std.proofs.lemmas.Bool.{cases_eq}
use Rattle.qbf.specs.Nodes.{Node as NodeOf, node_itself}
use Rattle.sets.specs.Sides.{Over, joined}
use Rattle.sets.proofs.Joined.{node_low, node_high, node_cases, node_none}
use Rattle.table.specs.declared.node.Node.{Node}
use Rattle.table.specs.declared.table.Table.{Table}
use Rattle.table.specs.Places.{node_at}
use Rattle.table.specs.Tables.{nodes_of, size_of, Number, clauses, Held, Opens}
use Rattle.table.specs.Laws.{EndsStand, SizesFit, SetsFormed, SetsCoded, NumbersApart, NodesReached, Reached, reached_itself, reached_with, reached_without}
use Rattle.table.proofs.Families.{family_zero, family_one}
use Rattle.table.proofs.Canon.{cases_number, at_node, over, formed, filled, leads, canonical}

abbrev pub top : Table → ℕ → Node
top t n = node_at (nodes_of t) (n - 2)

pub sizes_fit : SizesFit
sizes_fit t = omega (arith, length-take t.nodes.len t.nodes.at)

pub ends_stand : EndsStand
unfolding clauses
ends_stand t = (family_zero _ _, family_one _ _)

-- the two sets without nodes have no code
pub small_over : (t : Table) (n k : ℕ) → n < 2 → Over k (clauses t n)
small_over t n k two = elim (cases_eq n 0) [
  | inl e ↦ subst (Over k) (sym (ap (clauses t) e ∙ (ends_stand t).0)) tt
  | inr ne ↦ (let e : n ≡ 1 = omega arith in subst (Over k) (sym (ap (clauses t) e ∙ (ends_stand t).1)) (tt, tt))
]

pub sets_formed : SetsFormed
unfolding clauses
sets_formed t n h = formed _ t.sound n h

pub numbers_apart : NumbersApart
unfolding clauses
numbers_apart t m n h i e = canonical _ t.sound m n h i e

-- a set with a node, by its node
pub opens : (t : Table) (n : ℕ) → Number t n → 2 ≤ n → Opens t n (top t n)
unfolding clauses
opens t n held two =
    let at : n - 2 < size_of t = omega arith in
    let f = t.sound.falling (n - 2) at in
    let r = t.sound.climbing (n - 2) at in
    record {
      means = at_node _ t.sound n (n - 2) at (omega arith);
      with_over = over _ t.sound (top t n).with (top t n).code (omega (arith, at)) r.0;
      without_over = over _ t.sound (top t n).without (top t n).code (omega (arith, at)) r.1;
      filled = t.sound.filled (n - 2) at;
      with_less = omega arith;
      without_less = omega arith;
      coded = t.sound.coded (n - 2) at;
    }

coded_joined : (k : ℕ) (hi lo : List (List ℕ)) → k < 512 → AllByRecursion (AllByRecursion (λ y. y < 512)) hi → AllByRecursion (AllByRecursion (λ y. y < 512)) lo → AllByRecursion (AllByRecursion (λ y. y < 512)) (joined k hi lo)
coded_joined k [] lo l a b = b
coded_joined k (c ∷ hi) lo l a b = ((l, a.0), coded_joined k hi lo l a.1 b)

coded_by : (t : Table) (b n : ℕ) → n < b → Number t n → AllByRecursion (AllByRecursion (λ y. y < 512)) (clauses t n)
coded_by t zero n l h = absurd (let no : ⊥ = omega arith in no)
coded_by t (suc b) n l h =
    elim (cases_number n (size_of t) h) [
      | inl e ↦ subst (AllByRecursion (AllByRecursion (λ y. y < 512))) (sym (ap (clauses t) e ∙ (ends_stand t).0)) tt
      | inr rest ↦ elim rest [
        | inl e ↦ subst (AllByRecursion (AllByRecursion (λ y. y < 512))) (sym (ap (clauses t) e ∙ (ends_stand t).1)) (tt, tt)
        | inr q ↦ (
            let n_is : n ≡ q.0 + 2 = q.2 in
            let o = opens t n h (omega arith) in
            subst (AllByRecursion (AllByRecursion (λ y. y < 512))) (sym o.means)
            (coded_joined (top t n).code (clauses t (top t n).with) (clauses t (top t n).without) o.coded (coded_by t b (top t n).with (omega (arith, o.with_less)) (omega (arith, o.with_less))) (coded_by t b (top t n).without (omega (arith, o.without_less)) (omega (arith, o.without_less)))))
      ]
    ]

pub sets_coded : SetsCoded
sets_coded t n h = coded_by t (suc n) n (omega arith) h

-- a number from 1 on stands for a set with a clause
pub has_clause : (t : Table) (n : ℕ) → Number t n → 0 < n → (c : List ℕ) × (cs : List (List ℕ)) × (clauses t n ≡ c ∷ cs)
unfolding clauses
has_clause t n h pos = filled _ t.sound n h pos

-- a set with a node begins with the node's code, and is a node of itself
pub own_node : (t : Table) (n : ℕ) → Number t n → 2 ≤ n → NodeOf (clauses t n) (clauses t n)
unfolding clauses
own_node t n h two =
    let l = leads _ t.sound n (n - 2) (omega arith) (omega arith) in
    subst (λ s. NodeOf s s) (sym l.2) (node_itself refl)

-- the nodes of a set are those that are reached from its number

each_by : (t : Table) (b n : ℕ) → n < b → Number t n → (x : List (List ℕ)) → NodeOf x (clauses t n) → (m : ℕ) × Number t m × Reached t m n × (clauses t m ≡ x)
each_by t zero n l h x i = absurd (let no : ⊥ = omega arith in no)
each_by t (suc b) n l h x i =
    elim (cases_number n (size_of t) h) [
      | inl e ↦ absurd (node_none i (inl (ap (clauses t) e ∙ (ends_stand t).0)))
      | inr rest ↦ elim rest [
        | inl e ↦ absurd (node_none i (inr (ap (clauses t) e ∙ (ends_stand t).1)))
        | inr q ↦ (
            let n_is : n ≡ q.0 + 2 = q.2 in
            let two : 2 ≤ n = omega arith in
            let o = opens t n h two in
            let w = has_clause t (top t n).with (omega (arith, o.with_less)) o.filled in
            let s : clauses t n ≡ joined (top t n).code (w.0 ∷ w.1) (clauses t (top t n).without) = o.means ∙ ap (λ z. joined (top t n).code z (clauses t (top t n).without)) w.2 in
            elim (node_cases i (top t n).code w.0 w.1 (clauses t (top t n).without) s o.without_over) [
              | inl e ↦ (n, h, reached_itself two refl, sym e)
              | inr side ↦ elim side [
                | inl j ↦ (
                    let r = each_by t b (top t n).with (omega (arith, o.with_less)) (omega (arith, o.with_less)) x (subst (NodeOf x) (sym w.2) j) in
                    (r.0, r.1, reached_with two r.2, r.3))
                | inr j ↦ (
                    let r = each_by t b (top t n).without (omega (arith, o.without_less)) (omega (arith, o.without_less)) x j in
                    (r.0, r.1, reached_without two r.2, r.3))
              ]
            ])
      ]
    ]

only_reached : (t : Table) (m n : ℕ) → Reached t m n → Number t n → NodeOf (clauses t m) (clauses t n)
only_reached t m n (reached_itself two e) h = subst (λ i. NodeOf (clauses t i) (clauses t n)) (sym e) (own_node t n h two)
only_reached t m n (reached_with two r) h =
    let o = opens t n h two in
    let i = only_reached t m (top t n).with r (omega (arith, o.with_less)) in
    subst (NodeOf (clauses t m)) (sym o.means) (node_high (top t n).code (clauses t (top t n).with) (clauses t (top t n).without) o.without_over i)
only_reached t m n (reached_without two r) h =
    let o = opens t n h two in
    let i = only_reached t m (top t n).without r (omega (arith, o.without_less)) in
    subst (NodeOf (clauses t m)) (sym o.means) (node_low (top t n).code (clauses t (top t n).with) (clauses t (top t n).without) o.without_over i)

pub nodes_reached : NodesReached
nodes_reached t n h = record { each = λ x i. each_by t (suc n) n (omega arith) h x i; only = λ m r. only_reached t m n r h }

-- each node of a set that the table has is there
pub nodes_held : (t : Table) (s x : List (List ℕ)) → Held t s → NodeOf x s → Held t x
nodes_held t s x h i =
    let n = h.0 in
    let r = (nodes_reached t n h.1.held).each x (subst (NodeOf x) (sym h.1.means) i) in
    (r.0, record { held = r.1; means = r.3 })
