-- The outermost block that occurs, and the candidates.
use Rattle.std.proofs.Common.{◌≡◌, ℕ, suc, ◌-◌, ◌<◌, true, false, ◌||◌, List, [], ◌∷◌, map, filter, sym, refl, ◌∙◌, subst, inl, inr, arith}
use Rattle.std.specs.List.{AllByRecursion}
use Rattle.std.proofs.lemmas.Bool.Decides.{nat_tests}
use Rattle.std.proofs.lemmas.Bool.{cases_Bool, cond_both, cond-false}
use Rattle.qbf.specs.declared.Quantifier.{Quantifier}
use Rattle.qbf.specs.declared.Candidate.{Candidate}
use Rattle.qbf.specs.Literals.{complement, positive, negative}
use Rattle.qbf.specs.Lists.{In}
use Rattle.qbf.specs.Chooser.{Listed, Picks}
use Rattle.qbf.specs.Clauses.{assigned}
use Rattle.qbf.specs.Value.{combine, none, value}
use Rattle.qbf.specs.Reduce.{same, size}
use Rattle.qbf.specs.Walk.{Block, ahead, blocks, present, some_present, first_present, outermost, candidate, candidates, picked}
use Rattle.theory.proofs.Terms.{absent, Outermost}
use Rattle.theory.proofs.Rules.{value_first, value_absent}
use Rattle.sets.proofs.Words.{in_kept}
use Rattle.theory.proofs.Setting.{value_assigned_set}
use Rattle.theory.proofs.Keeping.{size_falls}

pub same_is : (q r : Quantifier) → same q r ≡ true → q ≡ r
same_is q r e = grind (arith, nat_tests)

-- a block of one variable, and a block that one more variable joins
abbrev pub alone : Quantifier → ℕ → Block
alone q v = record { quantifier = q; variables = v ∷ [] }

abbrev pub joined : Quantifier → ℕ → Block → Block
joined q v c = record { quantifier = q; variables = v ∷ c.variables }

-- the first block has another quantifier
abbrev pub Other : Quantifier → List Block → Type 0
Other q [] = Unit {0}
Other q (c ∷ cs) = same q c.quantifier ≡ false

-- one variable more begins a block, or joins the first
pub by_ahead : (P : List Block → List Block → Type 0) (q : Quantifier) (v : ℕ) →
    ((cs : List Block) → Other q cs → P cs (alone q v ∷ cs)) → ((c : Block) (cs : List Block) → q ≡ c.quantifier → P (c ∷ cs) (joined q v c ∷ cs)) →
    (cs : List Block) → P cs (ahead q v cs)
by_ahead P q v begun joins [] = begun [] tt
by_ahead P q v begun joins (c ∷ cs) = cond_both (same q c.quantifier) _ _ (λ r. P (c ∷ cs) r) (λ e. joins c cs (same_is q c.quantifier e)) (λ e. begun (c ∷ cs) e)

module _ (k : ℕ) (s : List (List ℕ)) where
  -- if k is of the block x, it may be split first
  abbrev FirstOf : List Quantifier → ℕ → Block → Type 0
  FirstOf qs v x = In k x.variables → Outermost x.quantifier qs v k s

  -- the first block
  head_outermost : (qs : List Quantifier) (v : ℕ) (b : Block) (bs : List Block) → blocks qs v ≡ b ∷ bs → FirstOf qs v b
  head_outermost [] v b bs e = absurd (cc)
  head_outermost (q ∷ qs) v b bs e =
      let ih = head_outermost qs (suc v) in
      by_ahead (λ cs r. blocks qs (suc v) ≡ cs → r ≡ b ∷ bs → FirstOf (q ∷ qs) v b) q v
      (λ cs _ f g. let w : alone q v ≡ b = cc in subst (FirstOf (q ∷ qs) v) w (elim [ inl i ↦ inl (i, refl) | inr i ↦ absurd i ]))
      (λ c cs j f g. let w : joined q v c ≡ b = cc in subst (FirstOf (q ∷ qs) v) w (elim [ inl i ↦ inl (i, refl) | inr i ↦ inr (inl refl, subst (λ (p : Quantifier). Outermost p qs (suc v) k s) (sym j) (ih c cs f i)) ]))
      (blocks qs (suc v)) refl e

  -- the outermost block that occurs
  first_outermost : (qs : List Quantifier) (v : ℕ) → FirstOf qs v (first_present (blocks qs v) s)
  first_outermost [] v = λ i. absurd i
  first_outermost (q ∷ qs) v =
      let ih = first_outermost qs (suc v) in
      by_ahead (λ cs r. blocks qs (suc v) ≡ cs → FirstOf qs (suc v) (first_present cs s) → FirstOf (q ∷ qs) v (first_present r s)) q v
      (λ cs _ f o.
      cond_both (present v s || false) _ _ (FirstOf (q ∷ qs) v) (λ e. elim [ inl i ↦ inl (i, refl) | inr i ↦ absurd i ])
      (λ e i. inr (inr (gone (grind (arith, nat_tests))), o i)))
      (λ c cs j f o.
      cond_both (present v s || some_present c.variables s) _ _ (FirstOf (q ∷ qs) v)
      (λ e. elim [ inl i ↦ inl (i, refl) | inr i ↦ inr (inl refl, subst (λ (p : Quantifier). Outermost p qs (suc v) k s) (sym j) (head_outermost qs (suc v) c cs f i)) ])
      (λ e i.
      let skipped : some_present c.variables s ≡ false = grind (arith, nat_tests) in
      inr (inr (gone (grind (arith, nat_tests))), subst (FirstOf qs (suc v)) (cond-false _ c (first_present cs s) skipped) o i)))
      (blocks qs (suc v)) refl ih
    where
      gone : present v s ≡ false → absent v s
      gone e = (grind (arith, nat_tests), grind (arith, nat_tests))

-- any variable of the outermost block may be split first
pub split_first : (prefix : List Quantifier) (s : List (List ℕ)) (x : ℕ) → In x (outermost prefix s).variables →
    value prefix 0 s ≡ combine (outermost prefix s).quantifier (value prefix 0 (assigned (negative x) s)) (value prefix 0 (assigned (positive x) s))
split_first prefix s x h =
    let f = value_first (outermost prefix s).quantifier prefix 0 x s (first_outermost x s prefix 0 h) in
    let a = value_assigned_set (negative x) s prefix 0 in
    let b = value_assigned_set (positive x) s prefix 0 in
    cc

-- if no variable occurs, the value is that under the empty prefix
none_kept : (xs : List ℕ) (s : List (List ℕ)) → filter (λ x. present x s) xs ≡ [] → some_present xs s ≡ false
none_kept [] s e = refl
none_kept (x ∷ xs) s e = let ih = none_kept xs s in elim (cases_Bool (present x s)) [ inl t ↦ grind (arith, nat_tests) | inr t ↦ grind (arith, nat_tests) ]

none_blocks : (bs : List Block) (s : List (List ℕ)) → some_present (first_present bs s).variables s ≡ false → AllByRecursion (λ b. some_present b.variables s ≡ false) bs
none_blocks [] s e = tt
none_blocks (b ∷ bs) s e =
    let ih = none_blocks bs s in
    cond_both (some_present b.variables s) b (first_present bs s) (λ x. some_present x.variables s ≡ false → AllByRecursion (λ b. some_present b.variables s ≡ false) (b ∷ bs))
    (λ f e. absurd (grind (arith, nat_tests))) (λ f e. (f, ih e)) e

pub none_ahead : (q : Quantifier) (v : ℕ) (s : List (List ℕ)) (cs : List Block) → AllByRecursion (λ b. some_present b.variables s ≡ false) (ahead q v cs) → absent v s × AllByRecursion (λ b. some_present b.variables s ≡ false) cs
none_ahead q v s =
    by_ahead (λ cs r. AllByRecursion (λ b. some_present b.variables s ≡ false) r → absent v s × AllByRecursion (λ b. some_present b.variables s ≡ false) cs) q v
    (λ cs _ h. let f = h.0 in ((grind (arith, nat_tests), grind (arith, nat_tests)), h.1))
    (λ c cs _ h. let f = h.0 in ((grind (arith, nat_tests), grind (arith, nat_tests)), (grind (arith, nat_tests), h.1)))

none_value : (qs : List Quantifier) (v : ℕ) (s : List (List ℕ)) → AllByRecursion (λ b. some_present b.variables s ≡ false) (blocks qs v) → value qs v s ≡ none s
none_value [] v s h = refl
none_value (q ∷ qs) v s h =
    let r = none_ahead q v s (blocks qs (suc v)) h in
    value_absent q qs v s r.0 ∙ none_value qs (suc v) s r.1

map_none : {A B : Type 0} (f : A → B) (xs : List A) → map f xs ≡ [] → xs ≡ []
map_none f [] e = refl
map_none f (x ∷ xs) e = cc

-- without a candidate, no block has a variable that occurs
pub none_from : (prefix : List Quantifier) (s : List (List ℕ)) → candidates prefix s ≡ [] → AllByRecursion (λ b. some_present b.variables s ≡ false) (blocks prefix 0)
none_from prefix s e =
    let xs : List ℕ = (outermost prefix s).variables in
    none_blocks (blocks prefix 0) s (none_kept xs s (map_none (candidate s) (filter (λ x. present x s) xs) e))

pub no_candidates : (prefix : List Quantifier) (s : List (List ℕ)) → candidates prefix s ≡ [] → value prefix 0 s ≡ none s
no_candidates prefix s e = none_value prefix 0 s (none_from prefix s e)

-- the picked variable is one of the block, and occurs
listed_in : (s : List (List ℕ)) (p : ℕ) (xs : List ℕ) → Listed p (map (candidate s) xs) → In (p - 1) xs
listed_in s p [] h = absurd h
listed_in s p (x ∷ xs) (inl e) = inl (omega (arith, e))
listed_in s p (x ∷ xs) (inr h) = inr (listed_in s p xs h)

module _ (pick : List Candidate → ℕ) (picks : Picks pick) (prefix : List Quantifier) (s : List (List ℕ)) (c : Candidate) (cs : List Candidate) (e : candidates prefix s ≡ c ∷ cs) where
  picked_kept : In (picked pick (c ∷ cs)) (filter (λ x. present x s) (outermost prefix s).variables)
  picked_kept =
      let l : Listed (pick (c ∷ cs)) (c ∷ cs) = picks (c ∷ cs) (omega arith) in
      listed_in s (pick (c ∷ cs)) (filter (λ x. present x s) (outermost prefix s).variables) (rw e l)

  pub picked_first :
      value prefix 0 s ≡ combine (outermost prefix s).quantifier (value prefix 0 (assigned (negative (picked pick (c ∷ cs))) s)) (value prefix 0 (assigned (positive (picked pick (c ∷ cs))) s))
  picked_first = split_first prefix s (picked pick (c ∷ cs)) (in_kept (λ x. present x s) (picked pick (c ∷ cs)) (outermost prefix s).variables picked_kept).0

  pub picked_falls : (size (assigned (negative (picked pick (c ∷ cs))) s) < size s) × (size (assigned (positive (picked pick (c ∷ cs))) s) < size s)
  picked_falls =
      let x : ℕ = picked pick (c ∷ cs) in
      let p = (in_kept (λ x. present x s) x (outermost prefix s).variables picked_kept).1 in
      let d : (complement (negative x) ≡ positive x) × (complement (positive x) ≡ negative x) = omega arith in
      (size_falls (negative x) s (grind (arith, nat_tests)), size_falls (positive x) s (grind (arith, nat_tests)))
