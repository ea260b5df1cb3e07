-- Which clauses are stored.
use Rattle.std.proofs.Common.{◌≡◌, ℕ, Bool, true, false, ◌⊎◌, List, [], ◌∷◌, ◌++◌, map, sym, refl, ap, ◌∙◌, subst, inl, inr, ⊎_elim, append_assoc, append-nil}
use Rattle.std.proofs.ByRecursion.{All-push}
use Rattle.std.proofs.lemmas.Bool.{both_ways, false≢true, false_from_ne_true, cond-true, cond-false, or_cases, or_parts}
use Rattle.std.specs.List.{AllByRecursion}
use Rattle.qbf.specs.Lists.{In}
use Rattle.qbf.proofs.Lists.{in_left, in_right}
use Rattle.clause.specs.Once.{once, both_signs, same_set}
use Rattle.clause.proofs.Sets.{once_out, signs, same_itself, same_turned}
use Rattle.grammar.specs.Stored.{repeated, store, store_all}
use Rattle.grammar.specs.Theorems.{LeavesOut, Unlike, StoredStands}
use Rattle.grammar.specs.Theorems.LeavesOut.{done, keeps, skips}

-- a clause is left out, for one of two reasons, or stored
data Step (stored : List (List ℕ)) (c : List ℕ) : Type 0 where
  left_out : store stored c ≡ stored → (both_signs c ≡ true) ⊎ (repeated (once c) stored ≡ true) → Step stored c
  stored_now : store stored c ≡ stored ++ once c ∷ [] → both_signs c ≡ false → repeated (once c) stored ≡ false → Step stored c

step : (stored : List (List ℕ)) (c : List ℕ) → Step stored c
step stored c = on (both_signs c) (repeated (once c) stored) refl refl
  where
    on : (b r : Bool) → both_signs c ≡ b → repeated (once c) stored ≡ r → Step stored c
    on true r b s = left_out (cond-true _ _ _ b) (inl b)
    on false true b s = left_out (cond-false _ _ _ b ∙ cond-true _ _ _ s) (inr s)
    on false false b s = stored_now (cond-false _ _ _ b ∙ cond-false _ _ _ s) b s

-- more clauses only add to the stored ones
record Extends (stored cs : List (List ℕ)) : Type 0 where
  added : List (List ℕ)
  is : store_all stored cs ≡ stored ++ added
  order : LeavesOut added (map once cs)

extends : (cs stored : List (List ℕ)) → Extends stored cs
extends [] stored = record { added = []; is = sym (append-nil stored); order = done }
extends (c ∷ cs) stored = on (extends cs) (step stored c)
  where
    on : ((s : List (List ℕ)) → Extends s cs) → Step stored c → Extends stored (c ∷ cs)
    on ih (left_out e why) =
        let r = ih stored in
        record { added = r.added; is = ap (λ (s : List (List ℕ)). store_all s cs) e ∙ r.is; order = skips r.order }
    on ih (stored_now e b n) =
        let r = ih (stored ++ once c ∷ []) in
        record { added = once c ∷ r.added; is = ap (λ (s : List (List ℕ)). store_all s cs) e ∙ r.is ∙ append_assoc stored (once c ∷ []) r.added; order = keeps r.order }

-- unlikeness, for one clause more
unlike_more : (cs : List (List ℕ)) (c : List ℕ) → Unlike cs → repeated c cs ≡ false → Unlike (cs ++ c ∷ [])
unlike_more [] c h n = (tt, tt)
unlike_more (d ∷ cs) c h n =
    let p = or_parts (same_set c d) (repeated c cs) n in
    (All-push (λ x. same_set d x ≡ false) cs c h.0 (same_turned d c ∙ p.0), unlike_more cs c h.1 p.1)

-- taking each literal once brings in no second sign
one_sign_once : (c : List ℕ) → both_signs c ≡ false → both_signs (once c) ≡ false
one_sign_once c b =
    false_from_ne_true _ (λ t. let k = (signs (once c)).0 t in both_ways (both_signs c) b ((signs c).1 (k.0, once_out k.0 c k.1, once_out _ c k.2)))

record Sound (stored : List (List ℕ)) : Type 0 where
  one_sign : AllByRecursion (λ c. both_signs c ≡ false) stored
  unlike : Unlike stored

sound : (cs stored : List (List ℕ)) → Sound stored → Sound (store_all stored cs)
sound [] stored h = h
sound (c ∷ cs) stored h = sound cs (store stored c) (on (step stored c))
  where
    on : Step stored c → Sound (store stored c)
    on (left_out e why) = subst Sound (sym e) h
    on (stored_now e b n) =
        let more : Sound (stored ++ once c ∷ []) = record { one_sign = All-push (λ d. both_signs d ≡ false) stored (once c) h.one_sign (one_sign_once c b); unlike = unlike_more stored (once c) h.unlike n } in
        subst Sound (sym e) more

-- a stored clause with the same literals
abbrev Kept : List ℕ → List (List ℕ) → Type 0
Kept c stored = (d : List ℕ) × In d stored × (same_set (once c) d ≡ true)

kept_on : (c : List ℕ) (cs stored : List (List ℕ)) → Kept c stored → Kept c (store_all stored cs)
kept_on c cs stored k =
    let r = extends cs stored in
    (k.0, subst (In k.0) (sym r.is) (in_left k.0 stored r.added k.1), k.2)

repeated_kept : (c : List ℕ) (stored : List (List ℕ)) → repeated (once c) stored ≡ true → Kept c stored
repeated_kept c [] e = absurd (false≢true e)
repeated_kept c (d ∷ stored) e =
    ⊎_elim (λ s. (d, inl refl, s)) (λ s. let k = repeated_kept c stored s in (k.0, inr k.1, k.2)) (or_cases (same_set (once c) d) (repeated (once c) stored) e)

complete : (cs stored : List (List ℕ)) (c : List ℕ) → In c cs → both_signs c ≡ false → Kept c (store_all stored cs)
complete [] stored c i b = elim i [ ]
complete (d ∷ cs) stored c (inl e) b = kept_on c cs (store stored d) (subst (λ (x : List ℕ). Kept c (store stored x)) e (on (step stored c)))
  where
    on : Step stored c → Kept c (store stored c)
    on (left_out s (inl both)) = absurd (both_ways (both_signs c) b both)
    on (left_out s (inr again)) = subst (Kept c) (sym s) (repeated_kept c stored again)
    on (stored_now s one n) = subst (Kept c) (sym s) (once c, in_right (once c) stored (once c ∷ []) (inl refl), same_itself (once c))
complete (d ∷ cs) stored c (inr i) b = complete cs (store stored d) c i b

pub stored_stands_lem : StoredStands
stored_stands_lem written =
    let r = extends written [] in
    let s = sound written [] (record { one_sign = tt; unlike = tt }) in
    record {
      in_order = subst (λ (x : List (List ℕ)). LeavesOut x (map once written)) (sym r.is) r.order;
      one_sign = s.one_sign;
      unlike = s.unlike;
      complete = complete written [];
    }
