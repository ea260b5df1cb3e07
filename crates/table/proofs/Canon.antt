-- Two numbers of one set are one number, and each set has its one form.
use Rattle.std.proofs.Common.{◌≡◌, ℕ, zero, suc, ◌+◌, ◌-◌, ◌<◌, ◌⊎◌, List, [], ◌∷◌, length, sym, ap, ◌∙◌, subst, inl, inr, arith}
use Rattle.std.proofs.lemmas.Bool.{cases_lt, cases_eq}
use Rattle.qbf.specs.Clauses.{Canonical}
use Rattle.sets.specs.Sides.{Over, joined}
use Rattle.sets.proofs.Joined.{over_joined, canonical_joined, same_sides}
use Rattle.table.specs.declared.node.Node.{Node}
use Rattle.table.specs.Places.{node_at, set_of, Above, Sound}
use Rattle.table.proofs.Families.{family_zero, family_one, family_node}
use Rattle.table.proofs.Stores.{fresh}

pub cases_number : (n count : ℕ) → n < count + 2 → (n ≡ 0) ⊎ ((n ≡ 1) ⊎ ((p : ℕ) × (p < count) × (n ≡ p + 2)))
cases_number n count h =
    elim (cases_eq n 0) [
      | inl e ↦ inl e
      | inr ne ↦ elim (cases_eq n 1) [
        | inl e ↦ inr (inl e)
        | inr ne' ↦ inr (inr (n - 2, omega arith, omega arith))
      ]
    ]

module _ (xs : List Node) (s : Sound xs) where
  pub at_node : (n p : ℕ) → p < length xs → n ≡ p + 2 → set_of xs n ≡ joined (node_at xs p).code (set_of xs (node_at xs p).with) (set_of xs (node_at xs p).without)
  at_node n p h e = ap (set_of xs) e ∙ family_node xs p s.falling h

  -- every code of a set is above k, where its node's code is
  over_by : (b n k : ℕ) → n < b → n < length xs + 2 → Above xs k n → Over k (set_of xs n)
  over_by zero n k l h a = absurd (let no : ⊥ = omega arith in no)
  over_by (suc b) n k l h a =
      elim (cases_number n (length xs) h) [
        | inl e ↦ subst (Over k) (sym (ap (set_of xs) e ∙ family_zero xs _)) tt
        | inr rest ↦ elim rest [
          | inl e ↦ subst (Over k) (sym (ap (set_of xs) e ∙ family_one xs _)) (tt, tt)
          | inr q ↦ (
              let p = q.0 in
              let n_is : n ≡ p + 2 = q.2 in
              let place : n - 2 ≡ p = omega arith in
              let up : k < (node_at xs p).code = subst (λ j. k < (node_at xs j).code) place (a (omega arith)) in
              let f = s.falling p q.1 in
              let r = s.climbing p q.1 in
              let high = over_by b (node_at xs p).with (node_at xs p).code (omega arith) (omega (arith, q.1)) r.0 in
              let low = over_by b (node_at xs p).without (node_at xs p).code (omega arith) (omega (arith, q.1)) r.1 in
              subst (Over k) (sym (at_node n p q.1 q.2)) (over_joined k (node_at xs p).code (set_of xs (node_at xs p).with) (set_of xs (node_at xs p).without) up high low))
        ]
      ]

  pub over : (n k : ℕ) → n < length xs + 2 → Above xs k n → Over k (set_of xs n)
  over n k h a = over_by (suc n) n k (omega arith) h a

  formed_by : (b n : ℕ) → n < b → n < length xs + 2 → Canonical (set_of xs n)
  formed_by zero n l h = absurd (let no : ⊥ = omega arith in no)
  formed_by (suc b) n l h =
      elim (cases_number n (length xs) h) [
        | inl e ↦ subst Canonical (sym (ap (set_of xs) e ∙ family_zero xs _)) (tt, tt)
        | inr rest ↦ elim rest [
          | inl e ↦ subst Canonical (sym (ap (set_of xs) e ∙ family_one xs _)) ((tt, tt), (tt, tt))
          | inr q ↦ (
              let p = q.0 in
              let n_is : n ≡ p + 2 = q.2 in
              let x = node_at xs p in
              let f = s.falling p q.1 in
              let r = s.climbing p q.1 in
              subst Canonical (sym (at_node n p q.1 q.2))
              (canonical_joined x.code (set_of xs x.with) (set_of xs x.without) (formed_by b x.with (omega arith) (omega (arith, q.1))) (formed_by b x.without (omega arith) (omega (arith, q.1)))
              (over x.with x.code (omega (arith, q.1)) r.0) (over x.without x.code (omega (arith, q.1)) r.1)))
        ]
      ]

  pub formed : (n : ℕ) → n < length xs + 2 → Canonical (set_of xs n)
  formed n h = formed_by (suc n) n (omega arith) h

  -- a number other than 0 has a clause
  SomeClause : ℕ → Type 0
  SomeClause n = (c : List ℕ) × (cs : List (List ℕ)) × (set_of xs n ≡ c ∷ cs)

  filled_by : (b n : ℕ) → n < b → n < length xs + 2 → 0 < n → SomeClause n
  unfolding SomeClause
  filled_by zero n l h pos = absurd (let no : ⊥ = omega arith in no)
  filled_by (suc b) n l h pos =
      elim (cases_number n (length xs) h) [
        | inl e ↦ absurd (let no : ⊥ = omega arith in no)
        | inr rest ↦ elim rest [
          | inl e ↦ ([], [], ap (set_of xs) e ∙ family_one xs _)
          | inr q ↦ (
              let p = q.0 in
              let n_is : n ≡ p + 2 = q.2 in
              let f = s.falling p q.1 in
              let w = filled_by b (node_at xs p).with (omega arith) (omega (arith, q.1)) (s.filled p q.1) in (
                (node_at xs p).code ∷ w.0,
                joined (node_at xs p).code w.1 (set_of xs (node_at xs p).without),
                at_node n p q.1 q.2 ∙ ap (λ z. joined (node_at xs p).code z (set_of xs (node_at xs p).without)) w.2,
              ))
        ]
      ]

  pub filled : (n : ℕ) → n < length xs + 2 → 0 < n → (c : List ℕ) × (cs : List (List ℕ)) × (set_of xs n ≡ c ∷ cs)
  unfolding SomeClause
  filled n h pos = filled_by (suc n) n (omega arith) h pos

  -- the first clause of a node's family starts with its code
  pub leads : (n p : ℕ) → p < length xs → n ≡ p + 2 → (c : List ℕ) × (cs : List (List ℕ)) × (set_of xs n ≡ ((node_at xs p).code ∷ c) ∷ cs)
  unfolding SomeClause
  leads n p h e =
      let f = s.falling p h in
      let w = filled_by (suc (node_at xs p).with) (node_at xs p).with (omega arith) (omega arith) (s.filled p h) in
      (w.0, joined (node_at xs p).code w.1 (set_of xs (node_at xs p).without), at_node n p h e ∙ ap (λ z. joined (node_at xs p).code z (set_of xs (node_at xs p).without)) w.2)

  empty_apart : (m n : ℕ) → m ≡ 0 → n < length xs + 2 → 0 < n → set_of xs m ≡ set_of xs n → ⊥
  unfolding SomeClause
  empty_apart m n e h pos same =
      let f = filled_by (suc n) n (omega arith) h pos in
      let none : set_of xs m ≡ [] = ap (set_of xs) e ∙ family_zero xs _ in
      let some : set_of xs n ≡ f.0 ∷ f.1 = f.2 in
      let z : ◌≡◌ {A = ℕ} 0 1 = cc in omega arith

  unit_apart : (m n q : ℕ) → m ≡ 1 → q < length xs → n ≡ q + 2 → set_of xs m ≡ set_of xs n → ⊥
  unit_apart m n q e h i same =
      let f = leads n q h i in
      let one : set_of xs m ≡ [] ∷ [] = ap (set_of xs) e ∙ family_one xs _ in
      let some : set_of xs n ≡ ((node_at xs q).code ∷ f.0) ∷ f.1 = f.2 in
      let z : ◌≡◌ {A = ℕ} 0 1 = cc in omega arith

  same_place : (p q : ℕ) → p < length xs → q < length xs → node_at xs p ≡ node_at xs q → p ≡ q
  same_place p q h i e =
      elim (cases_lt p q) [
        | inl l ↦ absurd (s.apart p q l i e)
        | inr g ↦ elim (cases_lt q p) [ inl l ↦ absurd (s.apart q p l h (sym e)) | inr g' ↦ (omega arith) ]
      ]

  canonical_by : (b m n : ℕ) → m < b → n < b → m < length xs + 2 → n < length xs + 2 → set_of xs m ≡ set_of xs n → m ≡ n
  canonical_by zero m n l k h i same = absurd (let no : ⊥ = omega arith in no)
  canonical_by (suc b) m n l k h i same =
      elim (cases_number m (length xs) h) [
        | inl m0 ↦ elim (cases_eq n 0) [ inl n0 ↦ (omega arith) | inr n1 ↦ absurd (empty_apart m n m0 i (omega arith) same) ]
        | inr rest ↦ elim rest [
          | inl m1 ↦ elim (cases_number n (length xs) i) [
            | inl n0 ↦ absurd (empty_apart n m n0 h (omega arith) (sym same))
            | inr rest' ↦ elim rest' [ inl n1 ↦ (omega arith) | inr q ↦ absurd (unit_apart m n q.0 m1 q.1 q.2 same) ]
          ]
          | inr p ↦ elim (cases_number n (length xs) i) [
            | inl n0 ↦ absurd (empty_apart n m n0 h (let e : m ≡ p.0 + 2 = p.2 in omega arith) (sym same))
            | inr rest' ↦ elim rest' [
              | inl n1 ↦ absurd (unit_apart n m p.0 n1 p.1 p.2 (sym same))
              | inr q ↦ (
                  let x = node_at xs p.0 in
                  let y = node_at xs q.0 in
                  let m_is : m ≡ p.0 + 2 = p.2 in
                  let n_is : n ≡ q.0 + 2 = q.2 in
                  let lead = leads m p.0 p.1 m_is in
                  let lead' = leads n q.0 q.1 n_is in
                  let first : set_of xs m ≡ (x.code ∷ lead.0) ∷ lead.1 = lead.2 in
                  let first' : set_of xs n ≡ (y.code ∷ lead'.0) ∷ lead'.1 = lead'.2 in
                  let codes : x.code ≡ y.code = cc in
                  let f = s.falling p.0 p.1 in
                  let f' = s.falling q.0 q.1 in
                  let r = (s.climbing p.0 p.1).1 in
                  let r' = (s.climbing q.0 q.1).1 in
                  let lower = over x.without x.code (omega (arith, p.1)) r in
                  let lower' : Over x.code (set_of xs y.without) = subst (λ c. Over c (set_of xs y.without)) (sym codes) (over y.without y.code (omega (arith, q.1)) r') in
                  let whole : joined x.code (set_of xs x.with) (set_of xs x.without) ≡ joined x.code (set_of xs y.with) (set_of xs y.without) =
                  sym (at_node m p.0 p.1 m_is) ∙ same ∙ at_node n q.0 q.1 n_is ∙ ap (λ c. joined c (set_of xs y.with) (set_of xs y.without)) (sym codes) in
                  let sides = same_sides x.code _ _ _ _ lower lower' whole in
                  let withs : x.with ≡ y.with = canonical_by b _ _ (omega arith) (omega arith) (omega (arith, p.1)) (omega (arith, q.1)) sides.0 in
                  let withouts : x.without ≡ y.without = canonical_by b _ _ (omega arith) (omega arith) (omega (arith, p.1)) (omega (arith, q.1)) sides.1 in
                  let nodes : x ≡ y = λ j. fresh (codes j) (withs j) (withouts j) in
                  let place : p.0 ≡ q.0 = same_place _ _ p.1 q.1 nodes in
                  omega arith)
            ]
          ]
        ]
      ]

  pub canonical : (m n : ℕ) → m < length xs + 2 → n < length xs + 2 → set_of xs m ≡ set_of xs n → m ≡ n
  canonical m n h i same = canonical_by (suc (m + n)) m n (omega arith) (omega arith) h i same

  -- a node's code is above k, where every code of its set is
  pub above_by : (n k : ℕ) → n < length xs + 2 → Over k (set_of xs n) → Above xs k n
  above_by n k h a two =
      let l = leads n (n - 2) (omega arith) (omega arith) in
      let b : Over k (((node_at xs (n - 2)).code ∷ l.0) ∷ l.1) = subst (Over k) l.2 a in
      b.0.0

  -- a set whose node is missing has no number
  pub absent : (code hi lo : ℕ) → 0 < hi → hi < length xs + 2 → lo < length xs + 2 → Over code (set_of xs lo) → ((k : ℕ) → k < length xs → node_at xs k ≡ fresh code hi lo → ⊥)
      → (n : ℕ) → n < length xs + 2 → set_of xs n ≡ joined code (set_of xs hi) (set_of xs lo) → ⊥
  absent code hi lo pos hi_held lo_held lower' lacks n h e =
      let w = filled hi hi_held pos in
      let first : set_of xs n ≡ (code ∷ w.0) ∷ joined code w.1 (set_of xs lo) = e ∙ ap (λ z. joined code z (set_of xs lo)) w.2 in
      elim (cases_number n (length xs) h) [
        | inl n0 ↦ (let none : set_of xs n ≡ [] = ap (set_of xs) n0 ∙ family_zero xs _ in let z : ◌≡◌ {A = ℕ} 0 1 = cc in omega arith)
        | inr rest ↦ elim rest [
          | inl n1 ↦ (let one : set_of xs n ≡ [] ∷ [] = ap (set_of xs) n1 ∙ family_one xs _ in let z : ◌≡◌ {A = ℕ} 0 1 = cc in omega arith)
          | inr q ↦ (
              let x = node_at xs q.0 in
              let lead = leads n q.0 q.1 q.2 in
              let first' : set_of xs n ≡ (x.code ∷ lead.0) ∷ lead.1 = lead.2 in
              let codes : x.code ≡ code = cc in
              let f = s.falling q.0 q.1 in
              let lower : Over code (set_of xs x.without) = subst (λ c. Over c (set_of xs x.without)) codes (over x.without x.code (omega (arith, q.1)) (s.climbing q.0 q.1).1) in
              let whole : joined code (set_of xs x.with) (set_of xs x.without) ≡ joined code (set_of xs hi) (set_of xs lo) =
              ap (λ c. joined c (set_of xs x.with) (set_of xs x.without)) (sym codes) ∙ sym (at_node n q.0 q.1 q.2) ∙ e in
              let sides = same_sides code _ _ _ _ lower lower' whole in
              let withs : x.with ≡ hi = canonical _ _ (omega (arith, q.1)) hi_held sides.0 in
              let withouts : x.without ≡ lo = canonical _ _ (omega (arith, q.1)) lo_held sides.1 in
              lacks q.0 q.1 (λ j. fresh (codes j) (withs j) (withouts j)))
        ]
      ]
