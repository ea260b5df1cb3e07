-- A clause from its highest code down.
use Rattle.std.proofs.Common.{◌≡◌, ℕ, ◌+◌, ◌-◌, ◌<◌, ◌≤◌, true, false, not, ltb, List, [], ◌∷◌, Ok, Err, filter, sym, refl, ap, ◌∙◌, subst, inl, inr, arith}
use Rattle.std.specs.List.{AllByRecursion}
use Rattle.std.proofs.lemmas.Bool.Decides.{nat_tests}
use Rattle.std.proofs.lemmas.Bool.{cases_lt, cond_both}
use Rattle.qbf.specs.Lists.{mem}
use Rattle.qbf.specs.Clauses.{Rising}
use Rattle.qbf.specs.Nodes.{Node as NodeOf}
use Rattle.sets.specs.Sides.{Over, joined}
use Rattle.sets.proofs.Words.{above_absent}
use Rattle.sets.proofs.Joined.{node_high}
use Rattle.table.specs.declared.table.Full.{Full}
use Rattle.table.specs.declared.table.Table.{Table}
use Rattle.table.specs.Tables.{clauses, Is, Adds, Makes}
use Rattle.table.proofs.Tables.{ends_stand}
use Rattle.table.proofs.Grown.{adds_same, adds_then, misses_widen}
use Rattle.diagram.proofs.Steps.{Set, made_as, grows_within}

-- the codes of the clause from i on
abbrev pub upper : ℕ → List ℕ → List ℕ
upper i c = filter (λ x. not (ltb x i)) c

pub upper_all : (i : ℕ) (c : List ℕ) → AllByRecursion (λ x. i ≤ x) c → upper i c ≡ c
upper_all i [] a = refl
upper_all i (x ∷ c) a = let ih = upper_all i c a.1 in let l = a.0 in grind (arith, nat_tests)

pub upper_none : (n : ℕ) (c : List ℕ) → AllByRecursion (λ x. x < n) c → upper n c ≡ []
upper_none n [] a = refl
upper_none n (x ∷ c) a = let ih = upper_none n c a.1 in let l = a.0 in grind (arith, nat_tests)

upper_skip : (i : ℕ) (c : List ℕ) → mem i c ≡ false → upper i c ≡ upper (i + 1) c
upper_skip i [] e = refl
upper_skip i (x ∷ c) e = let ih = upper_skip i c in grind (arith, nat_tests)

upper_take : (i : ℕ) (c : List ℕ) → Rising c → mem i c ≡ true → upper i c ≡ i ∷ upper (i + 1) c
upper_take i [] r e = grind (arith, nat_tests)
upper_take i (x ∷ c) r e =
    let ih = upper_take i c r.1 in
    let a : i ≤ x → mem i c ≡ false = λ l. above_absent i x c l r.0 in
    let s = upper_skip i c in
    grind (arith, nat_tests)

upper_over : (i : ℕ) (c : List ℕ) → AllByRecursion (λ y. i < y) (upper (i + 1) c)
upper_over i [] = tt
upper_over i (x ∷ c) = let ih = upper_over i c in cond_both (not (ltb x (i + 1))) _ _ (AllByRecursion (λ y. i < y)) (λ e. (grind (arith, nat_tests), ih)) (λ e. ih)

upper_low : (i x : ℕ) (c : List ℕ) → i ≤ x → AllByRecursion (λ y. x < y) c → upper i c ≡ c
upper_low i x [] l a = refl
upper_low i x (y ∷ c) l a = let ih = upper_low i x c l a.1 in let h = a.0 in grind (arith, nat_tests)

-- the nodes of the upper part of a clause are nodes of the clause
node_upper : (i : ℕ) (c : List ℕ) → Rising c → (x : Set) → NodeOf x (upper i c ∷ []) → NodeOf x (c ∷ [])
node_upper i [] r x n = n
node_upper i (y ∷ c) r x n = elim (cases_lt y i) [
  | inl l ↦ (let e : upper i (y ∷ c) ≡ upper i c = grind (arith, nat_tests) in node_high y (c ∷ []) [] tt (node_upper i c r.1 x (subst (λ z. NodeOf x (z ∷ [])) e n)))
  | inr l ↦ (let u = upper_low i y c l r.0 in let e : upper i (y ∷ c) ≡ y ∷ c = grind (arith, nat_tests) in subst (λ z. NodeOf x (z ∷ [])) e n)
]

-- the table t has become u, in which n is the number of the clause's part from i on
pub record Chained (t : Table) (c : List ℕ) (i : ℕ) (u : Table) (n : ℕ) : Type 0 where
  pub grows : Adds t ((c ∷ []) ∷ []) u
  pub is : Is (upper i c ∷ []) u n

pub chain_starts : (t : Table) (c : List ℕ) (end : ℕ) → AllByRecursion (λ x. x < end) c → Chained t c end t 1
chain_starts t c end a = record {
  grows = adds_same t ((c ∷ []) ∷ []);
  is = record { held = omega arith; means = (ends_stand t).1 ∙ ap (λ z. z ∷ []) (sym (upper_none end c a)) };
}

-- the next code down from j
pub chain_next : (t : Table) (c : List ℕ) (j : ℕ) (u : Table) (n : ℕ) → 0 < j → Chained t c j u n → Chained t c (j - 1 + 1) u n
chain_next t c j u n pos h = let e : j ≡ j - 1 + 1 = omega arith in subst (λ i. Chained t c i u n) e h

pub chain_skips : (t : Table) (c : List ℕ) (i : ℕ) (u : Table) (n : ℕ) → mem i c ≡ false → Chained t c (i + 1) u n → Chained t c i u n
chain_skips t c i u n e h = record { grows = h.grows; is = subst (λ z. Is (z ∷ []) u n) (sym (upper_skip i c e)) h.is }

module _ (t : Table) (c : List ℕ) (i : ℕ) (u : Table) (n : ℕ) (rises : Rising c) (marked : mem i c ≡ true) (h : Chained t c (i + 1) u n) where
  link : joined i (clauses u n) (clauses u 0) ≡ upper i c ∷ []
  link =
      ap (λ z. joined i z (clauses u 0)) h.is.means ∙ ap (joined i (upper (i + 1) c ∷ [])) (ends_stand u).0
      ∙ ap (λ z. z ∷ []) (sym (upper_take i c rises marked))

  -- what `make` requires
  pub link_over : Over i (clauses u n)
  link_over = subst (Over i) (sym h.is.means) (upper_over i c, tt)

  pub none_over : Over i (clauses u 0)
  none_over = subst (Over i) (sym (ends_stand u).0) tt

  pub chain_grows : {w : Table} {m : ℕ} → Makes u (joined i (clauses u n) (clauses u 0)) w (Ok m) → Chained t c i w m
  chain_grows {w} {m} k =
      let j = made_as link k in
      record { grows = adds_then t ((c ∷ []) ∷ []) u w h.grows (grows_within u (upper i c ∷ []) w (c ∷ []) (node_upper i c rises) j.grows); is = j.cases }

  pub chain_breaks : {w : Table} {e : Full} → Makes u (joined i (clauses u n) (clauses u 0)) w (Err e) → Makes t (c ∷ []) w (Err e)
  chain_breaks {w} {e} k =
      let j = made_as link k in
      record { grows = adds_then t ((c ∷ []) ∷ []) u w h.grows (grows_within u (upper i c ∷ []) w (c ∷ []) (node_upper i c rises) j.grows); cases = misses_widen (upper i c ∷ []) w (c ∷ []) (node_upper i c rises) j.cases }

-- down to a code that is at most the lowest
pub chain_ends : (t : Table) (c : List ℕ) (i : ℕ) (u : Table) (n : ℕ) → AllByRecursion (λ x. i ≤ x) c → Chained t c i u n → Makes t (c ∷ []) u (Ok n)
chain_ends t c i u n a h = record { grows = h.grows; cases = subst (λ z. Is (z ∷ []) u n) (upper_all i c a) h.is }
