-- What a number stands for under more nodes.
use Rattle.std.proofs.Common.{◌≡◌, ℕ, zero, suc, ◌+◌, ◌<◌, ◌≤◌, List, [], ◌∷◌, length, sym, refl, ap, ◌∙◌, inl, inr, arith}
use Rattle.std.proofs.lemmas.Bool.{cond-true, cond-false, eq-eqb, ne_eqb, cases_lt}
use Rattle.sets.specs.Sides.{joined}
use Rattle.table.specs.declared.node.Node.{Node}
use Rattle.table.specs.Places.{node_at, family, set_of, Falling}

-- the nodes of xs stand first among those of ys
pub record Extends (xs ys : List Node) : Type 0 where
  pub grows : length xs ≤ length ys
  pub keeps : (k : ℕ) → k < length xs → node_at ys k ≡ node_at xs k

pub family_past : (xs : List Node) (k n : ℕ) → n < suc (suc k) → family xs (suc k) n ≡ family xs k n
unfolding family
family_past xs k n h = cond-false _ _ _ (ne_eqb n (suc (suc k)) (λ e. omega arith))

pub family_top : (xs : List Node) (k n : ℕ) → n ≡ suc (suc k) → family xs (suc k) n ≡ joined (node_at xs k).code (family xs k (node_at xs k).with) (family xs k (node_at xs k).without)
unfolding family
family_top xs k n e = cond-true _ _ _ (eq-eqb n (suc (suc k)) e)

pub family_zero : (xs : List Node) (k : ℕ) → family xs k 0 ≡ []
unfolding family
family_zero xs zero = refl
family_zero xs (suc k) = family_past xs k 0 (omega arith) ∙ family_zero xs k

pub family_one : (xs : List Node) (k : ℕ) → family xs k 1 ≡ [] ∷ []
unfolding family
family_one xs zero = refl
family_one xs (suc k) = family_past xs k 1 (omega arith) ∙ family_one xs k

-- more nodes leave what the first k stand for
pub family_below : (xs : List Node) (k m n : ℕ) → k ≤ m → n < k + 2 → family xs m n ≡ family xs k n
family_below xs k zero n l h = let e : zero ≡ k = omega arith in ap (λ j. family xs j n) e
family_below xs k (suc m) n l h =
    elim (cases_lt m k) [
      | inl p ↦ (let e : suc m ≡ k = omega arith in ap (λ j. family xs j n) e)
      | inr p ↦ family_past xs m n (omega arith) ∙ family_below xs k m n p h
    ]

-- a family is read off the first k nodes alone
pub family_same : (xs ys : List Node) (k n : ℕ) → ((j : ℕ) → j < k → node_at ys j ≡ node_at xs j) → family ys k n ≡ family xs k n
unfolding family
family_same xs ys zero n same = refl
family_same xs ys (suc k) n same =
    let here : node_at ys k ≡ node_at xs k = same k (omega arith) in
    let below : (m : ℕ) → family ys k m ≡ family xs k m = λ m. family_same xs ys k m (λ j h. same j (omega arith)) in
    let with_side : family ys k (node_at ys k).with ≡ family xs k (node_at xs k).with = below _ ∙ ap (λ x. family xs k x.with) here in
    let without_side : family ys k (node_at ys k).without ≡ family xs k (node_at xs k).without = below _ ∙ ap (λ x. family xs k x.without) here in
    let code : (node_at ys k).code ≡ (node_at xs k).code = ap (λ x. x.code) here in
    rw (below n, with_side, without_side, code) refl

pub family_extends : {xs ys : List Node} → Extends xs ys → (n : ℕ) → n < length xs + 2 → set_of ys n ≡ set_of xs n
family_extends {xs} {ys} x n h = family_below ys (length xs) (length ys) n x.grows h ∙ family_same xs ys (length xs) n x.keeps

-- what a node stands for, by its sides
pub family_node : (xs : List Node) (k : ℕ) → Falling xs → k < length xs → set_of xs (k + 2) ≡ joined (node_at xs k).code (set_of xs (node_at xs k).with) (set_of xs (node_at xs k).without)
family_node xs k falling h =
    let f = falling k h in
    let up : set_of xs (k + 2) ≡ family xs (suc k) (k + 2) = family_below xs (suc k) (length xs) (k + 2) h (omega arith) in
    let with_side : set_of xs (node_at xs k).with ≡ family xs k (node_at xs k).with = family_below xs k (length xs) _ (omega arith) f.0 in
    let without_side : set_of xs (node_at xs k).without ≡ family xs k (node_at xs k).without = family_below xs k (length xs) _ (omega arith) f.1 in
    up ∙ family_top xs k (k + 2) (omega arith) ∙ sym (ap (λ s. joined (node_at xs k).code s (set_of xs (node_at xs k).without)) with_side ∙ ap (λ s. joined (node_at xs k).code (family xs k (node_at xs k).with) s) without_side)
