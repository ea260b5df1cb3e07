-- Sets by their sides at a code.
use Rattle.std.proofs.Common.{◌≡◌, ℕ, ◌<◌, ◌≤◌, min, inl, inr, List, [], ◌∷◌, sym, ap, ◌∙◌, subst, arith}
use Rattle.std.specs.List.{AllByRecursion}
use Rattle.std.proofs.ByRecursion.{All-weaker}
use Rattle.std.proofs.lemmas.Bool.{cases_lt}
use Rattle.qbf.specs.Clauses.{union}
use Rattle.sets.specs.Sides.{Over, joined}
use Rattle.sets.proofs.Joined.{over_joined, union_joined, over_union}
use Rattle.table.specs.declared.node.Node.{Node}
use Rattle.table.specs.declared.table.Table.{Table}
use Rattle.table.specs.Tables.{Number, clauses, Adds, Opens}
use Rattle.table.proofs.Tables.{ends_stand, small_over, has_clause}
use Rattle.diagram.specs.Cofactors.{From, Leads, Lowest, Sided}
use Rattle.diagram.proofs.Steps.{Set, Split}

pub opened_leads : (t : Table) (n : ℕ) (x : Node) → Number t n → Opens t n x → Leads x.code (clauses t n)
opened_leads t n x h o =
    let w = has_clause t x.with (omega (arith, o.with_less)) o.filled in
    (w.0, joined x.code w.1 (clauses t x.without), o.means ∙ ap (λ z. joined x.code z (clauses t x.without)) w.2)

from_over : (j k : ℕ) (s : Set) → j ≤ k → Over k s → From j s
from_over j k s l a = All-weaker (AllByRecursion (λ y. k < y)) (AllByRecursion (λ y. j ≤ y)) (λ c. All-weaker (λ y. k < y) (λ y. j ≤ y) (λ y h. omega arith) c) s a

from_joined : (j k : ℕ) (hi lo : Set) → j ≤ k → Over k hi → Over k lo → From j (joined k hi lo)
from_joined j k [] lo l a b = from_over j k lo l b
from_joined j k (c ∷ hi) lo l a b = ((l, All-weaker (λ y. k < y) (λ y. j ≤ y) (λ y h. omega arith) c a.0), from_joined j k hi lo l a.1 b)

-- the codes of a set are at least its lowest
pub opened_from : (t : Table) (n k : ℕ) (x : Node) → Opens t n x → k ≤ x.code → From k (clauses t n)
opened_from t n k x o l = subst (From k) (sym o.means) (from_joined k x.code (clauses t x.with) (clauses t x.without) l o.with_over o.without_over)

pub small_from : (t : Table) (n k : ℕ) → n < 2 → From k (clauses t n)
small_from t n k two = from_over k k (clauses t n) (omega arith) (small_over t n k two)

-- the lower of the codes of two sets' nodes
pub lowest_both : (t : Table) (a b : ℕ) (x y : Node) → Number t a → Number t b → Opens t a x → Opens t b y → Lowest t a b (min x.code y.code)
lowest_both t a b x y h i o p = record {
  a_from = opened_from t a _ x o (omega arith);
  b_from = opened_from t b _ y p (omega arith);
  met = elim (cases_lt y.code x.code) [
    | inl l ↦ (let e : y.code ≡ min x.code y.code = omega arith in inr (subst (λ k. Leads k (clauses t b)) e (opened_leads t b y i p)))
    | inr g ↦ (let e : x.code ≡ min x.code y.code = omega arith in inl (subst (λ k. Leads k (clauses t a)) e (opened_leads t a x h o)))
  ];
  coded = omega (arith, o.coded);
}

pub sided_here : (t : Table) (n k : ℕ) (x : Node) → Opens t n x → x.code ≡ k → Sided t n k x.with x.without
sided_here t n k x o e = record {
  means = o.means ∙ ap (λ j. joined j (clauses t x.with) (clauses t x.without)) e;
  hi_over = subst (λ j. Over j (clauses t x.with)) e o.with_over;
  lo_over = subst (λ j. Over j (clauses t x.without)) e o.without_over;
  hi_le = omega (arith, o.with_less);
  lo_le = omega (arith, o.without_less);
  less = λ _. (o.with_less, o.without_less);
}

sided_over : (t : Table) (n k : ℕ) → Over k (clauses t n) → Sided t n k 0 n
sided_over t n k a = record {
  means = sym (ap (λ s. joined k s (clauses t n)) (ends_stand t).0);
  hi_over = subst (Over k) (sym (ends_stand t).0) tt;
  lo_over = a;
  hi_le = omega arith;
  lo_le = omega arith;
  less = λ l. absurd (let b : Over k ((k ∷ l.0) ∷ l.1) = subst (Over k) l.2 a in let no : ⊥ = omega (arith, b.0.0) in no);
}

pub sided_small : (t : Table) (n k : ℕ) → n < 2 → Sided t n k 0 n
sided_small t n k two = sided_over t n k (small_over t n k two)

pub sided_past : (t : Table) (n k : ℕ) (x : Node) → Number t n → Opens t n x → From k (clauses t n) → (x.code ≡ k → ⊥) → Sided t n k 0 n
sided_past t n k x h o f ne =
    let l = opened_leads t n x h o in
    let b : From k ((x.code ∷ l.0) ∷ l.1) = subst (From k) l.2 f in
    let up : k < x.code = omega (arith, b.0.0, ne) in
    sided_over t n k (subst (Over k) (sym o.means) (over_joined k x.code (clauses t x.with) (clauses t x.without) up o.with_over o.without_over))

pub union_split : (t : Table) (a b k ah al bh bl : ℕ) → Sided t a k ah al → Sided t b k bh bl → Split (union (clauses t a) (clauses t b)) k (union (clauses t ah) (clauses t bh)) (union (clauses t al) (clauses t bl))
union_split t a b k ah al bh bl x y = record {
  is = ap (λ s. union s (clauses t b)) x.means ∙ ap (union (joined k (clauses t ah) (clauses t al))) y.means ∙ union_joined k (clauses t ah) (clauses t al) (clauses t bh) (clauses t bl) x.lo_over y.lo_over;
  hi_over = over_union k (clauses t ah) (clauses t bh) x.hi_over y.hi_over;
  lo_over = over_union k (clauses t al) (clauses t bl) x.lo_over y.lo_over;
}

-- the same two sets in a table that has grown
pub union_kept : (t : Table) (sets : List Set) (u : Table) → Adds t sets u → (a b : ℕ) → Number t a → Number t b → union (clauses u a) (clauses u b) ≡ union (clauses t a) (clauses t b)
union_kept t sets u g a b h i = ap (λ s. union s (clauses u b)) (g.keeps a h) ∙ ap (union (clauses t a)) (g.keeps b i)
