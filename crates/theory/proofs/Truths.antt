-- The value by which literals are true: sets that entail one another, and splits on a literal.
use Rattle.std.proofs.Common.{◌≡◌, ℕ, suc, ◌/◌, ◌≤◌, Bool, true, false, not, ◌&&◌, ◌||◌, eqb, ◌⊎◌, List, [], ◌∷◌, sym, refl, ◌∙◌, inl, inr, arith}
use Rattle.std.proofs.lemmas.Bool.Decides.{nat_tests}
use Rattle.std.proofs.lemmas.Bool.{cases_eq, cases_Bool}
use Rattle.qbf.specs.declared.Quantifier.{Quantifier}
use Rattle.qbf.specs.declared.Quantifier.TheVariants.{Existential, Universal}
use Rattle.qbf.specs.Literals.{complement, positive, negative}
use Rattle.qbf.specs.Lists.{mem, without, In}
use Rattle.qbf.specs.Value.{assign, combine, none, value}
use Rattle.theory.proofs.Terms.{Subset, Bound}
use Rattle.theory.proofs.Basic.{assign_comm, assign_absent, assign_gone}

-- the literals that are true
abbrev pub Truth : Type 0
Truth = ℕ → Bool

abbrev pub clause_true : Truth → List ℕ → Bool
clause_true e [] = false
clause_true e (x ∷ c) = e x || clause_true e c

abbrev pub set_true : Truth → List (List ℕ) → Bool
set_true e [] = true
set_true e (c ∷ s) = clause_true e c && set_true e s

abbrev pub Consistent : Truth → Type 0
Consistent e = (l : ℕ) → e l ≡ true → e (complement l) ≡ false

abbrev pub Entails : List (List ℕ) → List (List ℕ) → Type 0
Entails s t = (e : Truth) → Consistent e → set_true e s ≡ true → set_true e t ≡ true

abbrev pub put : Truth → ℕ → Truth
put e l x = eqb x l || (not (eqb x (complement l)) && e x)

pub clause_put : (e : Truth) (l : ℕ) (c : List ℕ) → clause_true (put e l) c ≡ (mem l c || clause_true e (without (complement l) c))
clause_put e l [] = refl
clause_put e l (x ∷ c) = let ih = clause_put e l c in grind (arith, nat_tests)

pub set_put : (e : Truth) (l : ℕ) (s : List (List ℕ)) → set_true (put e l) s ≡ set_true e (assign l s)
set_put e l [] = refl
set_put e l (c ∷ s) = let ih = set_put e l s in let p = clause_put e l c in grind (arith, nat_tests)

pub put_consistent : (e : Truth) (l : ℕ) → Consistent e → Consistent (put e l)
put_consistent e l h m p = let k = h m in grind (arith, nat_tests)

pub assign_entails : (l : ℕ) (s t : List (List ℕ)) → Entails s t → Entails (assign l s) (assign l t)
assign_entails l s t h e ok p = sym (set_put e l t) ∙ h (put e l) (put_consistent e l ok) (set_put e l s ∙ p)

pub combine_mono : (q : Quantifier) (a b c d : Bool) → (a ≡ true → c ≡ true) → (b ≡ true → d ≡ true) → combine q a b ≡ true → combine q c d ≡ true
combine_mono q a b c d h k p = grind (arith, nat_tests)

-- 2: the value goes by what the set says
pub value_mono : (qs : List Quantifier) (p : ℕ) (s t : List (List ℕ)) → Entails s t → value qs p s ≡ true → value qs p t ≡ true
value_mono [] p s t h v = none_mono s t (h (λ _. false) (λ l e. refl)) v
  where
    unsat : (c : List ℕ) → clause_true (λ _. false) c ≡ false
    unsat [] = refl
    unsat (x ∷ c) = unsat c

    none_mono : (s t : List (List ℕ)) → (set_true (λ _. false) s ≡ true → set_true (λ _. false) t ≡ true) → none s ≡ true → none t ≡ true
    none_mono s [] h v = refl
    none_mono [] (c ∷ t) h v = let u = unsat c in grind (arith, nat_tests)
    none_mono (d ∷ s) (c ∷ t) h v = grind (arith, nat_tests)
value_mono (q ∷ qs) p s t h v =
    combine_mono q _ _ _ _
    (value_mono qs (suc p) (assign (negative p) s) (assign (negative p) t) (assign_entails (negative p) s t h))
    (value_mono qs (suc p) (assign (positive p) s) (assign (positive p) t) (assign_entails (positive p) s t h))
    v

pub same_bool : (a b : Bool) → (a ≡ true → b ≡ true) → (b ≡ true → a ≡ true) → a ≡ b
same_bool a b h k = grind (arith, nat_tests)

pub true_clause : (e : Truth) (c : List ℕ) (x : ℕ) → In x c → e x ≡ true → clause_true e c ≡ true
true_clause e [] x h p = absurd h
true_clause e (y ∷ c) x h p = let ih = true_clause e c x in grind (arith, nat_tests)

pub true_literal : (e : Truth) (c : List ℕ) → clause_true e c ≡ true → (x : ℕ) × In x c × (e x ≡ true)
true_literal e [] p = grind (arith, nat_tests)
true_literal e (y ∷ c) p =
    let ih = true_literal e c in
    elim (cases_Bool (e y)) [ inl h ↦ (y, inl refl, h) | inr h ↦ let r = ih (grind (arith, nat_tests)) in (r.0, inr r.1, r.2) ]

pub set_clause : (e : Truth) (s : List (List ℕ)) (c : List ℕ) → set_true e s ≡ true → In c s → clause_true e c ≡ true
set_clause e [] c p h = absurd h
set_clause e (d ∷ s) c p h = let ih = set_clause e s c in grind (arith, nat_tests)

pub set_clauses : (e : Truth) (s : List (List ℕ)) → ((c : List ℕ) → In c s → clause_true e c ≡ true) → set_true e s ≡ true
set_clauses e [] h = refl
set_clauses e (d ∷ s) h =
    let ih : set_true e s ≡ true = set_clauses e s (λ c i. h c (inr i)) in
    let k : clause_true e d ≡ true = h d (inl refl) in
    grind (arith, nat_tests)

-- every clause of t holds Universal literals of some clause of s
abbrev pub Covers : List (List ℕ) → List (List ℕ) → Type 0
Covers s t = (d : List ℕ) → In d t → (c : List ℕ) × In c s × ((x : ℕ) → In x c → In x d)

pub covers_entails : (s t : List (List ℕ)) → Covers s t → Entails s t
covers_entails s t h e ok p = set_clauses e t (λ d i.
    let w = h d i in
    let r = true_literal e w.0 (set_clause e s w.0 p w.1) in
    true_clause e d r.0 (w.2 r.0 r.1) r.2)

pub value_antitone : (qs : List Quantifier) (v : ℕ) (s t : List (List ℕ)) → Subset s t → value qs v t ≡ true → value qs v s ≡ true
value_antitone qs v s t h = value_mono qs v t s (covers_entails t s (λ d i. (d, h d i, λ x k. k)))

pub value_as_set : (qs : List Quantifier) (v : ℕ) (s t : List (List ℕ)) → Subset s t → Subset t s → value qs v s ≡ value qs v t
value_as_set qs v s t h k = same_bool _ _ (value_antitone qs v t s k) (value_antitone qs v s t h)

-- 3: an empty clause
pub value_empty : (qs : List Quantifier) (v : ℕ) (s : List (List ℕ)) → In [] s → value qs v s ≡ false
value_empty [] v [] h = absurd h
value_empty [] v (c ∷ s) h = refl
value_empty (q ∷ qs) v s h =
    let a = value_empty qs (suc v) (assign (negative v) s) (empty_stays (negative v) s h) in
    let b = value_empty qs (suc v) (assign (positive v) s) (empty_stays (positive v) s h) in
    grind (arith, nat_tests)
  where
    empty_stays : (l : ℕ) (s : List (List ℕ)) → In [] s → In [] (assign l s)
    empty_stays l [] h = absurd h
    empty_stays l (c ∷ s) h = let ih = empty_stays l s in grind (arith, nat_tests)

-- the variables of one prefix
pub bound_above : (q : Quantifier) (qs : List Quantifier) (v l : ℕ) → Bound q qs v l → v ≤ l / 2
bound_above q [] v l h = absurd h
bound_above q (r ∷ qs) v l (inl h) = omega arith
bound_above q (r ∷ qs) v l (inr h) = let ih = bound_above q qs (suc v) l h in omega arith

pub of_variable : (l m : ℕ) → l / 2 ≡ m / 2 → (m ≡ l) ⊎ (m ≡ complement l)
of_variable l m e = elim (cases_eq m l) [ inl h ↦ inl h | inr n ↦ inr (omega arith) ]

pub either_literal : (l v : ℕ) → l / 2 ≡ v → (l ≡ negative v) ⊎ (l ≡ positive v)
either_literal l v e = elim (cases_eq l (negative v)) [ inl h ↦ inl h | inr n ↦ inr (omega arith) ]

pub assign_again : (l m : ℕ) (s : List (List ℕ)) → l / 2 ≡ m / 2 → assign m (assign l s) ≡ assign l s
assign_again l m s e =
    let g = assign_gone l s in
    let c = of_variable l m e in
    let f : complement (complement l) ≡ l = omega arith in
    assign_absent m (assign l s) (grind (arith, nat_tests)) (grind (arith, nat_tests))

pub combine_same : (q : Quantifier) (a : Bool) → combine q a a ≡ a
combine_same q a = grind (arith, nat_tests)

pub value_assigned : (q : Quantifier) (qs : List Quantifier) (v l : ℕ) (s : List (List ℕ)) → l / 2 ≡ v → value (q ∷ qs) v (assign l s) ≡ value qs (suc v) (assign l s)
value_assigned q qs v l s e = rw (assign_again l (negative v) s (omega arith), assign_again l (positive v) s (omega arith)) (combine_same q (value qs (suc v) (assign l s)))

pub split_ex : (qs : List Quantifier) (v l : ℕ) (s : List (List ℕ)) → Bound Existential qs v l → value qs v (assign l s) ≡ true → value qs v s ≡ true
split_ex [] v l s h t = absurd h
split_ex (r ∷ qs) v l s (inl h) t =
    let a = value_assigned r qs v l s h.0 in
    let c = either_literal l v h.0 in
    grind (arith, nat_tests)
split_ex (r ∷ qs) v l s (inr h) t =
    let k = bound_above Existential qs (suc v) l h in
    let a = split_ex qs (suc v) l (assign (negative v) s) h in
    let b = split_ex qs (suc v) l (assign (positive v) s) h in
    let c = assign_comm (negative v) l s (omega arith) in
    let d = assign_comm (positive v) l s (omega arith) in
    combine_mono r _ _ _ _ a b (rw (← c, ← d) t)

pub split_all : (qs : List Quantifier) (v l : ℕ) (s : List (List ℕ)) → Bound Universal qs v l → value qs v s ≡ true → value qs v (assign l s) ≡ true
split_all [] v l s h t = absurd h
split_all (r ∷ qs) v l s (inl h) t =
    let a = value_assigned r qs v l s h.0 in
    let c = either_literal l v h.0 in
    grind (arith, nat_tests)
split_all (r ∷ qs) v l s (inr h) t =
    let k = bound_above Universal qs (suc v) l h in
    let a = split_all qs (suc v) l (assign (negative v) s) h in
    let b = split_all qs (suc v) l (assign (positive v) s) h in
    let c = assign_comm (negative v) l s (omega arith) in
    let d = assign_comm (positive v) l s (omega arith) in
    rw (c, d) (combine_mono r _ _ _ _ a b t)
