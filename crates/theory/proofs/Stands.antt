-- The theorems as they are stated.
use Rattle.std.proofs.Common.{◌≡◌, ℕ, suc, ◌+◌, ◌*◌, ◌/◌, ◌<◌, ◌≤◌, true, false, not, List, [], ◌∷◌, length, refl, inl, inr, arith}
use Rattle.std.specs.List.{AllByRecursion}
use Rattle.std.proofs.lemmas.Bool.Decides.{nat_tests}
use Rattle.std.proofs.lemmas.Bool.{cases_eq, cases_Bool}
use Rattle.std.proofs.ByRecursion.{all_kept_by, All-map, All-weaker}
use Rattle.qbf.specs.declared.Quantifier.{Quantifier}
use Rattle.qbf.specs.declared.Candidate.{Candidate}
use Rattle.qbf.specs.Literals.{complement, positive, negative}
use Rattle.qbf.specs.declared.Quantifier.TheVariants.{Existential, Universal}
use Rattle.qbf.specs.Lists.{mem, without, In}
use Rattle.qbf.specs.Clauses.{holding, lacking, taken_out, assigned}
use Rattle.qbf.specs.Value.{none}
use Rattle.qbf.specs.Reduce.{binds, Within, has_empty, has_unit, occurs, lone, stuck, step, decided, left}
use Rattle.qbf.specs.Walk.{blocks, present, some_present, candidates}
use Rattle.theory.specs.Reducing.{LinesKeep, LinesFall, ReducingKeeps, ReducingCleans, ReducingCanonical, Clean}
use Rattle.theory.specs.Walking.{SomeCandidate}
use Rattle.sets.proofs.Words.{mem_in, all_in, all_without}
use Rattle.sets.proofs.Order.{all_union}
use Rattle.theory.proofs.Reducing.{binds_one, unit_from, occurs_in}
use Rattle.theory.proofs.Lines.{Stuck, at_stuck}
use Rattle.theory.proofs.Keeping.{step_keeps, step_falls}
use Rattle.theory.proofs.Reduces.{Reduces, r_stuck, r_forced, reduced_to, reduces_keeps, reduces_stuck, reduces_canonical}
use Rattle.theory.proofs.Blocks.{none_ahead, none_from}

pub lines_keep : LinesKeep
lines_keep prefix s = (λ b e. rw e at (step_keeps prefix s), λ l e. rw e at (step_keeps prefix s))

pub lines_fall : LinesFall
lines_fall prefix s l e = rw e at (step_falls prefix s)

pub reducing_keeps : ReducingKeeps
reducing_keeps prefix s = (λ b e. reduces_keeps prefix (reduced_to prefix s (decided b) e), λ t e. reduces_keeps prefix (reduced_to prefix s (left t) e))

pub reducing_canonical : ReducingCanonical
reducing_canonical prefix s t c e = reduces_canonical prefix (reduced_to prefix s (left t) e) c

-- a setting brings no variable in
pub within_assigned : (prefix : List Quantifier) (l : ℕ) (s : List (List ℕ)) → Within prefix s → Within prefix (assigned l s)
within_assigned prefix l s h =
    let P : List ℕ → Type 0 = AllByRecursion (λ x. x < 2 * length prefix) in
    let m : ℕ = complement l in
    let a : AllByRecursion P (lacking l s) = all_kept_by (λ c. not (mem l c)) P s h in
    let b : AllByRecursion P (holding m (lacking l s)) = all_kept_by (mem m) P (lacking l s) a in
    all_union P (taken_out m (lacking l s)) (lacking m (lacking l s))
    (All-map P (without m) (holding m (lacking l s)) (All-weaker P (λ c. P (without m c)) (λ c. all_without (λ x. x < 2 * length prefix) m c) (holding m (lacking l s)) b))
    (all_kept_by (λ c. not (mem m c)) P (lacking l s) a)

pub reduces_within : {prefix : List Quantifier} {s t : List (List ℕ)} {made : List (List (List ℕ))} → Reduces prefix s (left t) made → Within prefix s → Within prefix t
reduces_within (r_stuck e) h = h
reduces_within {prefix} (r_forced {s} {l} e r) h = reduces_within r (within_assigned prefix l s h)

-- a literal that occurs is of the prefix
occurs_within : (prefix : List Quantifier) (s : List (List ℕ)) (l : ℕ) → Within prefix s → occurs l s ≡ true → l < 2 * length prefix
occurs_within prefix s l h e =
    let r = occurs_in l s e in
    all_in (λ x. x < 2 * length prefix) r.0 l (all_in (AllByRecursion (λ x. x < 2 * length prefix)) s r.0 h r.1) (mem_in l r.0 r.2)

-- a set over the prefix that no line fits
pub clean_stuck : (prefix : List Quantifier) (t : List (List ℕ)) → Within prefix t → step prefix t ≡ stuck → Clean t
clean_stuck prefix t h e =
    let st = at_stuck prefix t e in
    record {
      some_clause = st.some_clause;
      no_empty = st.no_empty;
      no_unit = λ l. elim (cases_Bool (has_unit l t)) [ inl u ↦ absurd (bound st l (unit_from l t u)) | inr u ↦ u ];
      no_lone = λ l. elim (cases_Bool (lone l t)) [
        | inl u ↦ let n = occurs_within prefix t l h (grind (arith, nat_tests)) in st.no_lone l n
        | inr u ↦ u
      ];
    }
  where
    bound : Stuck prefix t → (l : ℕ) → In (l ∷ []) t → ⊥
    bound st l i =
        let n = (all_in (AllByRecursion (λ x. x < 2 * length prefix)) t (l ∷ []) h i).0 in
        elim (cases_Bool (binds Existential prefix (l / 2))) [
          | inl b ↦ st.no_unit l Existential (record { clause = i; bound = b })
          | inr b ↦ st.no_unit l Universal (record { clause = i; bound = binds_one prefix (l / 2) (omega arith) b })
        ]

pub reducing_cleans : ReducingCleans
reducing_cleans prefix s t h e =
    let r = reduced_to prefix s (left t) e in
    let w = reduces_within r h in
    (w, clean_stuck prefix t w (reduces_stuck prefix r))

-- if no block has a variable that occurs, no variable of the prefix does
none_absent : (qs : List Quantifier) (v x : ℕ) (s : List (List ℕ)) → AllByRecursion (λ b. some_present b.variables s ≡ false) (blocks qs v) → v ≤ x → x < v + length qs → present x s ≡ false
none_absent [] v x s h a b = absurd (omega arith)
none_absent (q ∷ qs) v x s h a b =
    let r = none_ahead q v s (blocks qs (suc v)) h in
    elim (cases_eq x v) [ inl e ↦ let f = r.0 in grind (arith, nat_tests) | inr e ↦ none_absent qs (suc v) x s r.1 (omega arith) (omega arith) ]

pub some_candidate : SomeCandidate
some_candidate prefix s h c = go (candidates prefix s) refl
  where
    first_literal : (t : List (List ℕ)) → none t ≡ false → has_empty t ≡ false → (l : ℕ) × (occurs l t ≡ true)
    first_literal [] e f = grind (arith, nat_tests)
    first_literal ([] ∷ t) e f = grind (arith, nat_tests)
    first_literal ((l ∷ d) ∷ t) e f = (l, grind (arith, nat_tests))

    go : (cs : List Candidate) → candidates prefix s ≡ cs → 0 < length cs
    go (d ∷ cs) e = omega arith
    go [] e =
        let r = first_literal s c.some_clause c.no_empty in
        let l : ℕ = r.0 in
        let n = occurs_within prefix s l h r.1 in
        let a = none_absent prefix 0 (l / 2) s (none_from prefix s e) (omega arith) (omega arith) in
        let o = r.1 in
        elim (cases_eq l (positive (l / 2))) [
          | inl f ↦ let g : occurs (positive (l / 2)) s ≡ true = rw f at o in grind (arith, nat_tests)
          | inr f ↦ let k : l ≡ negative (l / 2) = omega arith in let g : occurs (negative (l / 2)) s ≡ true = rw k at o in grind (arith, nat_tests)
        ]
