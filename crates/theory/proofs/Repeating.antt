-- A verdict that is asked for again.
use Rattle.std.proofs.Common.{◌≡◌, ℕ, zero, suc, Bool, false, List, [], ◌∷◌, ◌++◌, Some, None, Option, sym, refl, ap, ◌∙◌, subst, inl, inr, append_assoc, append-nil, arith}
use Rattle.std.specs.List.{AllByRecursion}
use Rattle.std.proofs.lemmas.Bool.Decides.{nat_tests}
use Rattle.qbf.specs.declared.Quantifier.{Quantifier}
use Rattle.qbf.specs.declared.Candidate.{Candidate}
use Rattle.qbf.specs.Lists.{In, Distinct}
use Rattle.qbf.specs.Nodes.{Node}
use Rattle.qbf.specs.Memo.{Pairs, Retains}
use Rattle.qbf.specs.Clauses.{assigned, setting}
use Rattle.qbf.specs.Value.{none}
use Rattle.qbf.specs.Reduce.{has_empty, Outcome, decided, left, Reduced, resume, reduce}
use Rattle.qbf.specs.Numbering.{Numbering, nth, stands, Among, Makes, Stops}
use Rattle.qbf.specs.Decision.{Ending, verdict, ReducesIn, settles, sticks, forces, fills, Unknown, Splits, Decides, by_reducing, full_reducing, recalled, by_allowance, by_depth, full_first, refused_first, first_only, full_second, refused_second, both_sides}
use Rattle.theory.specs.Repeating.{Known, known_reduced, known_held, Settled, DecisionSettles, Same, DecisionRepeats}
use Rattle.sets.proofs.Words.{all_in}
use Rattle.theory.proofs.Lines.{at_stuck}
use Rattle.theory.proofs.Reduces.{reduce_unfolds, reduced_to, reduces_stuck}
use Rattle.theory.proofs.Tables.{in_append, in_append_left, in_append_right, stands_append}
use Rattle.theory.proofs.Deciding.{forced_made, reduces_done}

-- a table that has grown, and still has different sets if it had
pub record Grows (t u : Numbering) : Type 0 where
  pub added : Numbering
  pub joined : u ≡ t ++ added
  pub apart : Distinct t → Distinct u

grows_none : (t : Numbering) → Grows t t
grows_none t = record { added = []; joined = sym (append-nil t); apart = λ d. d }

grows_then : {t u v : Numbering} → Grows t u → Grows u v → Grows t v
grows_then {t} g h = record {
  added = g.added ++ h.added;
  joined = h.joined ∙ ap (λ (x : Numbering). x ++ h.added) g.joined ∙ append_assoc t g.added h.added;
  apart = λ d. h.apart (g.apart d);
}

makes_grows : {t u : Numbering} {sets : List (List (List ℕ))} → Makes t sets u → Grows t u
makes_grows m = record { added = m.gains.added; joined = m.gains.joined; apart = λ _. m.apart }

stops_grows : {t u : Numbering} {sets : List (List (List ℕ))} → Stops t sets u → Grows t u
stops_grows m = record { added = m.gains.added; joined = m.gains.joined; apart = λ _. m.apart }

in_grown : {t u : Numbering} → Grows t u → (x : List (List ℕ)) → In x t → In x u
in_grown {t} g x i = rw g.joined (in_append_left x t g.added i)

stands_grown : {t u : Numbering} → Grows t u → (n : ℕ) (s : List (List ℕ)) → stands t n ≡ Some s → stands u n ≡ Some s
stands_grown {t} g n s e = rw g.joined (stands_append t g.added n s e)

reduces_grows : {prefix : List Quantifier} {t u : Numbering} {s : List (List ℕ)} {o : Option Outcome} → ReducesIn prefix t s o u → Grows t u
reduces_grows (settles {t} e) = grows_none t
reduces_grows (sticks {t} e) = grows_none t
reduces_grows (forces e m r) = grows_then (makes_grows m) (reduces_grows r)
reduces_grows (fills e m) = stops_grows m

splits_grows : {M : Type 0} {held : M → Pairs} {prefix : List Quantifier} {pick : List Candidate → ℕ} {allowance depth splits n x : ℕ} {t u : Numbering} {m : M} {s r : List (List ℕ)} →
    Splits held prefix pick allowance depth splits t m s r n x u → Grows t u
splits_grows sp = reduces_grows sp.unknown.reduced

module _ {M : Type 0} {held : M → Pairs} {notes : M → ℕ → Bool → M → Type 0} {prefix : List Quantifier} {pick : List Candidate → ℕ} {allowance : ℕ} where
  pub decides_grows : {depth splits done : ℕ} {t u : Numbering} {m a : M} {s : List (List ℕ)} {e : Ending} → Decides held notes prefix pick allowance depth splits t m s e done u a → Grows t u
  decides_grows (by_reducing i) = reduces_grows i
  decides_grows (full_reducing i) = reduces_grows i
  decides_grows (recalled i st k) = reduces_grows i
  decides_grows (by_allowance un e) = reduces_grows un.reduced
  decides_grows (by_depth un l e) = reduces_grows un.reduced
  decides_grows (full_first sp stop) = grows_then (splits_grows sp) (stops_grows stop)
  decides_grows (refused_first sp mk d) = grows_then (splits_grows sp) (grows_then (makes_grows mk) (decides_grows d))
  decides_grows (first_only sp mk d en nt) = grows_then (splits_grows sp) (grows_then (makes_grows mk) (decides_grows d))
  decides_grows (full_second sp mk d en stop) = grows_then (splits_grows sp) (grows_then (makes_grows mk) (grows_then (decides_grows d) (stops_grows stop)))
  decides_grows (refused_second sp mk d en mk2 d2) = grows_then (splits_grows sp) (grows_then (makes_grows mk) (grows_then (decides_grows d) (grows_then (makes_grows mk2) (decides_grows d2))))
  decides_grows (both_sides sp mk d en mk2 d2 nt) = grows_then (splits_grows sp) (grows_then (makes_grows mk) (grows_then (decides_grows d) (grows_then (makes_grows mk2) (decides_grows d2))))

-- the table has the nodes of all sets that reducing makes
abbrev Whole : List Quantifier → List (List ℕ) → Numbering → Type 0
Whole prefix s t = (y x : List (List ℕ)) → In y (reduce prefix s).made → Node x y → In x t

reduces_whole : (prefix : List Quantifier) {t u : Numbering} {s : List (List ℕ)} {o : Option Outcome} → ReducesIn prefix t s o u → (a : Outcome) → o ≡ Some a → Whole prefix s u
reduces_whole prefix (settles {s = s} e) a f y x i n = let m : (reduce prefix s).made ≡ [] = ap (λ (x : Reduced). x.made) (reduce_unfolds prefix s ∙ ap (resume (reduce prefix) s) e) in absurd (rw m at i)
reduces_whole prefix (sticks {s = s} e) a f y x i n = let m : (reduce prefix s).made ≡ [] = ap (λ (x : Reduced). x.made) (reduce_unfolds prefix s ∙ ap (resume (reduce prefix) s) e) in absurd (rw m at i)
reduces_whole prefix (forces {s = s} {l} e m r) a f y x i n =
    elim (in_append y (setting l s) (reduce prefix (assigned l s)).made (rw (forced_made prefix s l e) at i)) [
      | inl j ↦ in_grown (reduces_grows r) x (m.whole y x j n)
      | inr j ↦ reduces_whole prefix r a f y x j n
    ]
reduces_whole prefix (fills e m) a f y x i n = absurd (cc)

-- what the table has already is not added
nothing_new : {t u : Numbering} {sets : List (List (List ℕ))} → Makes t sets u → ((y x : List (List ℕ)) → In y sets → Node x y → In x t) → u ≡ t
nothing_new {t} {u} {sets} m h = go m.gains.added m.gains.joined m.gains.nodes
  where
    twice : (ts : Numbering) (x : List (List ℕ)) (rest : Numbering) → Distinct (ts ++ (x ∷ rest)) → In x ts → ⊥
    twice [] x rest d i = i
    twice (y ∷ ts) x rest d (inl e) = all_in (λ z. y ≡ z → ⊥) (ts ++ (x ∷ rest)) x d.0 (in_append_right x ts (x ∷ rest) (inl refl)) (sym e)
    twice (y ∷ ts) x rest d (inr i) = twice ts x rest d.1 i

    go : (added : Numbering) → u ≡ t ++ added → AllByRecursion (Among sets) added → u ≡ t
    go [] e a = e ∙ append-nil t
    go (x ∷ added) e a =
        let d : Distinct (t ++ (x ∷ added)) = subst (λ (z : Numbering). Distinct z) e m.apart in
        absurd (twice t x added d (h a.0.0 x a.0.1 a.0.2))

reduces_same : (prefix : List Quantifier) {t u : Numbering} {s : List (List ℕ)} {o : Option Outcome} → ReducesIn prefix t s o u → Whole prefix s t → (u ≡ t) × (o ≡ None → ⊥)
reduces_same prefix (settles e) w = (refl, λ f. cc)
reduces_same prefix (sticks e) w = (refl, λ f. cc)
reduces_same prefix (forces {s = s} {l} e m r) w =
    let here : (y x : List (List ℕ)) → In y (setting l s) → Node x y → In x _ = λ y x i n. w y x (rw (forced_made prefix s l e) (in_append_left y (setting l s) (reduce prefix (assigned l s)).made i)) n in
    let same = nothing_new m here in
    let rest = reduces_same prefix r (λ y x i n. rw same (w y x (rw (forced_made prefix s l e) (in_append_right y (setting l s) (reduce prefix (assigned l s)).made i)) n)) in
    (rest.0 ∙ same, rest.1)
reduces_same prefix (fills {s = s} {l} e m) w =
    let some : In m.hand (setting l s) = subst (λ (z : List (List (List ℕ))). In m.hand z) (sym m.order) (in_append_right m.hand m.made (m.hand ∷ m.rest) (inl refl)) in
    let i = w m.hand m.lacking.0 (rw (forced_made prefix s l e) (in_append_left m.hand (setting l s) (reduce prefix (assigned l s)).made some)) m.lacking.1 in
    absurd (m.lacking.2 (in_grown (stops_grows m) m.lacking.0 i))

-- one number for one set
nth_in : {A : Type 0} (xs : List A) (i : ℕ) (x : A) → nth xs i ≡ Some x → In x xs
nth_in [] i x e = grind (arith, nat_tests)
nth_in (y ∷ xs) zero x e = inl (let f : y ≡ x = cc in sym f)
nth_in (y ∷ xs) (suc i) x e = inr (nth_in xs i x e)

nth_one : {A : Type 0} (xs : List A) (i j : ℕ) (x : A) → Distinct xs → nth xs i ≡ Some x → nth xs j ≡ Some x → i ≡ j
nth_one [] i j x d e f = grind (arith, nat_tests)
nth_one (y ∷ xs) zero zero x d e f = refl
nth_one (y ∷ xs) zero (suc j) x d e f = let g : y ≡ x = cc in absurd (all_in (λ z. y ≡ z → ⊥) xs x d.0 (nth_in xs j x f) g)
nth_one (y ∷ xs) (suc i) zero x d e f = let g : y ≡ x = cc in absurd (all_in (λ z. y ≡ z → ⊥) xs x d.0 (nth_in xs i x e) g)
nth_one (y ∷ xs) (suc i) (suc j) x d e f = ap suc (nth_one xs i j x d.1 e f)

above : (t : Numbering) (n : ℕ) (r : List (List ℕ)) → none r ≡ false → has_empty r ≡ false → stands t n ≡ Some r → (i : ℕ) × (n ≡ suc (suc i)) × (nth t i ≡ Some r)
above t zero r e f g = let h : [] ≡ r = cc in let k : none [] ≡ false = subst (λ (z : List (List ℕ)). none z ≡ false) (sym h) e in absurd (grind (arith, nat_tests))
above t (suc zero) r e f g = let h : [] ∷ [] ≡ r = cc in let k : has_empty ([] ∷ []) ≡ false = subst (λ (z : List (List ℕ)). has_empty z ≡ false) (sym h) f in absurd (grind (arith, nat_tests))
above t (suc (suc i)) r e f g = (i, refl, g)

stands_one : (t : Numbering) (m n : ℕ) (r : List (List ℕ)) → Distinct t → none r ≡ false → has_empty r ≡ false → stands t m ≡ Some r → stands t n ≡ Some r → m ≡ n
stands_one t m n r d e f g h =
    let a = above t m r e f g in
    let b = above t n r e f h in
    let i = nth_one t a.0 b.0 r d a.2 b.2 in
    a.1 ∙ ap (λ (k : ℕ). suc (suc k)) i ∙ sym b.1

left_some : (prefix : List Quantifier) (s r : List (List ℕ)) → (reduce prefix s).outcome ≡ left r → (none r ≡ false) × (has_empty r ≡ false)
left_some prefix s r e = let st = at_stuck prefix r (reduces_stuck prefix (reduced_to prefix s (left r) e)) in (st.some_clause, st.no_empty)

module _ {M : Type 0} (held : M → Pairs) (notes : M → ℕ → Bool → M → Type 0) where
  -- a verdict of a split, noted
  noted : (retains : Retains held notes) (prefix : List Quantifier) {t u v : Numbering} {m k a : M} {s r : List (List ℕ)} {n : ℕ} {b : Bool} →
      Distinct t → Unknown held prefix t m s r n u → Grows u v → notes k n b a → Settled prefix s b (held a) v
  noted retains prefix {k = k} {a} {s} {r} {n} {b} d un g nt = record {
    known = known_held r n (reduces_done prefix un.reduced (left r) refl).0 (stands_grown g n r un.numbered) (retains k n b a nt);
    whole = λ y x i h. in_grown g x (reduces_whole prefix un.reduced (left r) refl y x i h);
    apart = g.apart ((reduces_grows un.reduced).apart d);
  }

  settled : Retains held notes → {pick : List Candidate → ℕ} {prefix : List Quantifier} {allowance depth splits done : ℕ} {t u : Numbering} {m a : M} {s : List (List ℕ)} {e : Ending} →
      Distinct t → Decides held notes prefix pick allowance depth splits t m s e done u a → (b : Bool) → e ≡ verdict b → Settled prefix s b (held a) u
  settled retains {prefix = prefix} d (by_reducing {s = s} {b = c} i) b e =
      let f : decided c ≡ decided b = cc in
      record { known = known_reduced ((reduces_done prefix i (decided c) refl).0 ∙ f); whole = reduces_whole prefix i (decided c) refl; apart = (reduces_grows i).apart d }
  settled retains d (full_reducing i) b e = absurd (cc)
  settled retains {prefix = prefix} d (recalled {n = n} {r = r} {b = c} i st k) b e =
      let f : Some c ≡ Some b = cc in
      record { known = known_held r n (reduces_done prefix i (left r) refl).0 st (k ∙ f); whole = reduces_whole prefix i (left r) refl; apart = (reduces_grows i).apart d }
  settled retains d (by_allowance un g) b e = absurd (cc)
  settled retains d (by_depth un l g) b e = absurd (cc)
  settled retains d (full_first sp stop) b e = absurd (cc)
  settled retains d (refused_first sp mk h) b e = absurd (cc)
  settled retains {prefix = prefix} d (first_only {n = n} {m1 = k} {m2 = a} {b = c} sp mk h en nt) b e =
      let f : c ≡ b = cc in
      noted retains prefix d sp.unknown (grows_then (makes_grows mk) (decides_grows h)) (subst (λ (z : Bool). notes k n z a) f nt)
  settled retains d (full_second sp mk h en stop) b e = absurd (cc)
  settled retains d (refused_second sp mk h en mk2 h2) b e = absurd (cc)
  settled retains {prefix = prefix} d (both_sides {n = n} {m2 = k} {m3 = a} {c = c} sp mk h en mk2 h2 nt) b e =
      let f : c ≡ b = cc in
      noted retains prefix d sp.unknown (grows_then (makes_grows mk) (grows_then (decides_grows h) (grows_then (makes_grows mk2) (decides_grows h2)))) (subst (λ (z : Bool). notes k n z a) f nt)

  pub decision_settles : DecisionSettles held notes
  decision_settles retains pick prefix allowance depth splits done before after memo kept s b d h = settled retains d h b refl

  -- a set whose verdict is known is not unknown
  never : {prefix : List Quantifier} {t u : Numbering} {m : M} {s r : List (List ℕ)} {n : ℕ} {b : Bool} → Settled prefix s b (held m) t → Unknown held prefix t m s r n u → ⊥
  never {prefix} {t} {u} {m} {s} {r} {n} {b} st un = go st.known
    where
      o : (reduce prefix s).outcome ≡ left r
      o = (reduces_done prefix un.reduced (left r) refl).0

      go : Known prefix s b (held m) t → ⊥
      go (known_reduced e) = cc (o, e)
      go (known_held q k e f g) =
          let same : u ≡ t = (reduces_same prefix un.reduced st.whole).0 in
          let i : q ≡ r = let h : left q ≡ left r = sym e ∙ o in cc in
          let c = left_some prefix s r o in
          let j : k ≡ n = stands_one t k n r st.apart c.0 c.1 (subst (λ (z : List (List ℕ)). stands t k ≡ Some z) i f) (subst (λ (z : Numbering). stands z n ≡ Some r) same un.numbered) in
          let h : held m n ≡ Some b = subst (λ (z : ℕ). held m z ≡ Some b) j g in
          let y = un.absent in
          cc

  repeated : {pick : List Candidate → ℕ} {prefix : List Quantifier} {allowance depth splits done : ℕ} {t u : Numbering} {m a : M} {s : List (List ℕ)} {b : Bool} {e : Ending} →
      Settled prefix s b (held m) t → Decides held notes prefix pick allowance depth splits t m s e done u a → Same b splits t m e done u a
  repeated {prefix = prefix} {s = s} {b} st (by_reducing {b = c} i) = record { ending = ap verdict (agree st.known); splits_same = refl; table_same = (reduces_same prefix i st.whole).0; memo_same = refl }
    where
      agree : {pairs : Pairs} {t : Numbering} → Known prefix s b pairs t → c ≡ b
      agree (known_reduced e) = let f : decided c ≡ decided b = sym (reduces_done prefix i (decided c) refl).0 ∙ e in cc
      agree (known_held q k e f g) = let o = (reduces_done prefix i (decided c) refl).0 in absurd (cc)
  repeated {prefix = prefix} st (full_reducing i) = absurd ((reduces_same prefix i st.whole).1 refl)
  repeated {prefix = prefix} {b = b} st (recalled {n = n} {t} {u} {m} {s} {r} {b = c} i sn k) = record { ending = ap verdict (agree st.known); splits_same = refl; table_same = (reduces_same prefix i st.whole).0; memo_same = refl }
    where
      o : (reduce prefix s).outcome ≡ left r
      o = (reduces_done prefix i (left r) refl).0

      agree : Known prefix s b (held m) t → c ≡ b
      agree (known_reduced e) = absurd (cc (o, e))
      agree (known_held q j e f g) =
          let same : u ≡ t = (reduces_same prefix i st.whole).0 in
          let h : q ≡ r = let l : left q ≡ left r = sym e ∙ o in cc in
          let w = left_some prefix s r o in
          let x : j ≡ n = stands_one t j n r st.apart w.0 w.1 (subst (λ (z : List (List ℕ)). stands t j ≡ Some z) h f) (subst (λ (z : Numbering). stands z n ≡ Some r) same sn) in
          let y : held m n ≡ Some b = subst (λ (z : ℕ). held m z ≡ Some b) x g in
          let l : Some c ≡ Some b = sym k ∙ y in cc
  repeated st (by_allowance un e) = absurd (never st un)
  repeated st (by_depth un l e) = absurd (never st un)
  repeated st (full_first sp stop) = absurd (never st sp.unknown)
  repeated st (refused_first sp mk h) = absurd (never st sp.unknown)
  repeated st (first_only sp mk h en nt) = absurd (never st sp.unknown)
  repeated st (full_second sp mk h en stop) = absurd (never st sp.unknown)
  repeated st (refused_second sp mk h en mk2 h2) = absurd (never st sp.unknown)
  repeated st (both_sides sp mk h en mk2 h2 nt) = absurd (never st sp.unknown)

  pub decision_repeats : DecisionRepeats held notes
  decision_repeats pick prefix allowance depth splits done before after memo kept s b e st h = repeated st h
