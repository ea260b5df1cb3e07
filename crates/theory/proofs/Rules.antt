-- Why each line of reducing keeps the value, and why any variable of the outermost block may be split first.
use Rattle.std.proofs.Common.{◌≡◌, ℕ, suc, ◌/◌, ◌≤◌, Bool, true, false, List, [], ◌∷◌, sym, ap, ◌∙◌, inl, inr, arith}
use Rattle.std.proofs.Math.Path.{fun_ext}
use Rattle.std.proofs.lemmas.Bool.Decides.{nat_tests}
use Rattle.qbf.specs.declared.Quantifier.{Quantifier}
use Rattle.qbf.specs.declared.Quantifier.TheVariants.{Existential, Universal}
use Rattle.qbf.specs.Literals.{complement, positive, negative}
use Rattle.qbf.specs.Lists.{without, In}
use Rattle.qbf.specs.Value.{assign, combine, value}
use Rattle.qbf.specs.Reduce.{occurs}
use Rattle.theory.proofs.Terms.{Subset, Bound, absent, Outermost}
use Rattle.sets.proofs.Words.{without_absent}
use Rattle.theory.proofs.Basic.{assign_comm, assign_absent, assign_keeps}
use Rattle.theory.proofs.Truths.{Truth, clause_true, set_true, Entails, put, set_put, value_mono, same_bool, set_clause, value_antitone, value_empty, split_ex, split_all, value_assigned, combine_same}

pub bound_like : (q : Quantifier) (qs : List Quantifier) (v l m : ℕ) → l / 2 ≡ m / 2 → Bound q qs v l → Bound q qs v m
bound_like q [] v l m e h = h
bound_like q (r ∷ qs) v l m e (inl h) = inl (omega arith, h.1)
bound_like q (r ∷ qs) v l m e (inr h) = inr (bound_like q qs (suc v) l m e h)

-- 3: a clause of one literal
pub unit_entails : (l : ℕ) (s : List (List ℕ)) → In (l ∷ []) s → Entails s (assign l s)
unit_entails l s h e ok p =
    let t : e l ≡ true = let k = set_clause e s (l ∷ []) p h in grind (arith, nat_tests) in
    let f = ok l t in
    let same : put e l ≡ e = fun_ext (λ x. grind (arith, nat_tests)) in
    sym (set_put e l s) ∙ ap (λ g. set_true g s) same ∙ p

pub unit_ex : (qs : List Quantifier) (v l : ℕ) (s : List (List ℕ)) → Bound Existential qs v l → In (l ∷ []) s → value qs v s ≡ value qs v (assign l s)
unit_ex qs v l s b h = same_bool _ _ (value_mono qs v s (assign l s) (unit_entails l s h)) (split_ex qs v l s b)

pub unit_breaks : (l : ℕ) (s : List (List ℕ)) → In (l ∷ []) s → In [] (assign (complement l) s)
unit_breaks l [] h = absurd h
unit_breaks l (c ∷ s) h = let ih = unit_breaks l s in let n : complement l ≡ l → ⊥ = omega arith in let f : complement (complement l) ≡ l = omega arith in grind (arith, nat_tests)

pub unit_all : (qs : List Quantifier) (v l : ℕ) (s : List (List ℕ)) → Bound Universal qs v l → In (l ∷ []) s → value qs v s ≡ false
unit_all qs v l s b h =
    let a = split_all qs v (complement l) s (bound_like Universal qs v l (complement l) (omega arith) b) in
    let e = value_empty qs v (assign (complement l) s) (unit_breaks l s h) in
    grind (arith, nat_tests)

-- 4: a literal whose complement is absent
pub lone_less : (l : ℕ) (s : List (List ℕ)) → occurs (complement l) s ≡ false → Subset (assign l s) s
lone_less l [] n c h = absurd h
lone_less l (d ∷ s) n c h = let ih = lone_less l s in let w = without_absent (complement l) d in grind (arith, nat_tests)

pub lone_ex : (qs : List Quantifier) (v l : ℕ) (s : List (List ℕ)) → Bound Existential qs v l → occurs (complement l) s ≡ false → value qs v s ≡ value qs v (assign l s)
lone_ex qs v l s b n = same_bool _ _ (value_antitone qs v (assign l s) s (lone_less l s n)) (split_ex qs v l s b)

pub without_true : (e : Truth) (l : ℕ) (c : List ℕ) → clause_true e (without l c) ≡ true → clause_true e c ≡ true
without_true e l [] p = p
without_true e l (x ∷ c) p = let ih = without_true e l c in grind (arith, nat_tests)

pub lone_entails : (l : ℕ) (s : List (List ℕ)) → occurs (complement l) s ≡ false → Entails (assign (complement l) s) s
lone_entails l [] n e ok p = p
lone_entails l (c ∷ s) n e ok p =
    let ih = lone_entails l s in
    let f : complement (complement l) ≡ l = omega arith in
    let w = without_true e l c in
    grind (arith, nat_tests)

pub lone_all : (qs : List Quantifier) (v l : ℕ) (s : List (List ℕ)) → Bound Universal qs v l → occurs (complement l) s ≡ false → value qs v s ≡ value qs v (assign (complement l) s)
lone_all qs v l s b n =
    same_bool _ _
    (split_all qs v (complement l) s (bound_like Universal qs v l (complement l) (omega arith) b))
    (value_mono qs v (assign (complement l) s) s (lone_entails l s n))

-- 5: any variable of the outermost block first
pub combine_swap : (q : Quantifier) (a b c d : Bool) → combine q (combine q a b) (combine q c d) ≡ combine q (combine q a c) (combine q b d)
combine_swap q a b c d = grind (arith, nat_tests)

pub outermost_above : (q : Quantifier) (qs : List Quantifier) (v k : ℕ) (s : List (List ℕ)) → Outermost q qs v k s → v ≤ k
outermost_above q [] v k s h = absurd h
outermost_above q (r ∷ qs) v k s (inl h) = omega arith
outermost_above q (r ∷ qs) v k s (inr h) = let ih = outermost_above q qs (suc v) k s h.1 in omega arith

pub outermost_assign : (q : Quantifier) (qs : List Quantifier) (v k l : ℕ) (s : List (List ℕ)) → Outermost q qs v k s → Outermost q qs v k (assign l s)
outermost_assign q [] v k l s h = h
outermost_assign q (r ∷ qs) v k l s (inl h) = inl h
outermost_assign q (r ∷ qs) v k l s (inr (inl e, o)) = inr (inl e, outermost_assign q qs (suc v) k l s o)
outermost_assign q (r ∷ qs) v k l s (inr (inr a, o)) = inr (inr (assign_keeps _ l s a.0, assign_keeps _ l s a.1), outermost_assign q qs (suc v) k l s o)

pub value_absent : (q : Quantifier) (qs : List Quantifier) (v : ℕ) (s : List (List ℕ)) → absent v s → value (q ∷ qs) v s ≡ value qs (suc v) s
value_absent q qs v s a =
    let c : (complement (negative v) ≡ positive v) × (complement (positive v) ≡ negative v) = omega arith in
    rw (assign_absent (negative v) s a.1 (rw c.0 a.0), assign_absent (positive v) s a.0 (rw c.1 a.1)) (combine_same q _)

pub value_first : (q : Quantifier) (qs : List Quantifier) (v k : ℕ) (s : List (List ℕ)) → Outermost q qs v k s → value qs v s ≡ combine q (value qs v (assign (negative k) s)) (value qs v (assign (positive k) s))
value_first q [] v k s h = absurd h
value_first q (r ∷ qs) v k s (inl h) =
    let e = value_assigned r qs v (negative k) s (omega arith) in
    let f = value_assigned r qs v (positive k) s (omega arith) in
    cc
value_first q (r ∷ qs) v k s (inr (inl e, o)) =
    let above = outermost_above q qs (suc v) k s o in
    let f = value_first q qs (suc v) k (assign (negative v) s) (outermost_assign q qs (suc v) k (negative v) s o) in
    let t = value_first q qs (suc v) k (assign (positive v) s) (outermost_assign q qs (suc v) k (positive v) s o) in
    let ff = assign_comm (negative v) (negative k) s (omega arith) in
    let ft = assign_comm (negative v) (positive k) s (omega arith) in
    let tf = assign_comm (positive v) (negative k) s (omega arith) in
    let tt' = assign_comm (positive v) (positive k) s (omega arith) in
    let w = λ (l m : ℕ). value qs (suc v) (assign l (assign m s)) in
    let swap = combine_swap q (w (negative k) (negative v)) (w (positive k) (negative v)) (w (negative k) (positive v)) (w (positive k) (positive v)) in
    cc
value_first q (r ∷ qs) v k s (inr (inr a, o)) =
    let ih = value_first q qs (suc v) k s o in
    let e = value_absent r qs v s a in
    let f = value_absent r qs v (assign (negative k) s) (assign_keeps _ _ s a.0, assign_keeps _ _ s a.1) in
    let g = value_absent r qs v (assign (positive k) s) (assign_keeps _ _ s a.0, assign_keeps _ _ s a.1) in
    cc
