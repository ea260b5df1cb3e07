-- Reducing as a relation without a bound on its lines, and what it leaves.
use Rattle.std.proofs.Common.{◌≡◌, ℕ, zero, suc, ◌<◌, ◌≤◌, Bool, List, [], ◌++◌, refl, ap, ◌∙◌, subst, arith}
use Rattle.qbf.specs.declared.Quantifier.{Quantifier}
use Rattle.qbf.specs.Clauses.{Canonical, assigned, setting}
use Rattle.qbf.specs.Value.{value}
use Rattle.qbf.specs.Reduce.{Step, settled, forced, stuck, step, Outcome, decided, left, Reduced, resume, reduce_within, size, reduce}
use Rattle.theory.proofs.Keeping.{step_keeps, Falls, step_falls}
use Rattle.sets.proofs.Forms.{forms_stay}

-- the set is reduced to an outcome, by way of the sets made
pub data Reduces (prefix : List Quantifier) : List (List ℕ) → Outcome → List (List (List ℕ)) → Type 0 where
  r_settled : {s : List (List ℕ)} {b : Bool} → step prefix s ≡ settled b → Reduces prefix s (decided b) []
  r_stuck : {s : List (List ℕ)} → step prefix s ≡ stuck → Reduces prefix s (left s) []
  r_forced : {s : List (List ℕ)} {l : ℕ} {o : Outcome} {made : List (List (List ℕ))} →
      step prefix s ≡ forced l → Reduces prefix (assigned l s) o made → Reduces prefix s o (setting l s ++ made)

module _ (prefix : List Quantifier) where
  -- more lines than literals change nothing
  enough : (n m : ℕ) (s : List (List ℕ)) → size s < n → size s < m → reduce_within n prefix s ≡ reduce_within m prefix s
  unfolding reduce_within
  enough zero m s h k = absurd (omega arith)
  enough (suc n) zero s h k = absurd (omega arith)
  enough (suc n) (suc m) s h k = go (step prefix s) (step_falls prefix s) (λ t. enough n m t)
    where
      go : (st : Step) → Falls s st → ((t : List (List ℕ)) → size t < n → size t < m → reduce_within n prefix t ≡ reduce_within m prefix t) →
          resume (reduce_within n prefix) s st ≡ resume (reduce_within m prefix) s st
      go (settled b) f ih = refl
      go (forced l) f ih = let e = ih (assigned l s) (omega arith) (omega arith) in cc
      go stuck f ih = refl

  -- reducing ends: it is one line carried out, followed by reducing what that leaves
  pub reduce_unfolds : (s : List (List ℕ)) → reduce prefix s ≡ resume (reduce prefix) s (step prefix s)
  unfolding reduce_within
  reduce_unfolds s = go (step prefix s) (step_falls prefix s)
    where
      go : (st : Step) → Falls s st → resume (reduce_within (size s) prefix) s st ≡ resume (reduce prefix) s st
      go (settled b) f = refl
      go (forced l) f = let e = enough (size s) (suc (size (assigned l s))) (assigned l s) f (omega arith) in cc
      go stuck f = refl

  pub reduces_is : {s : List (List ℕ)} {o : Outcome} {made : List (List (List ℕ))} → Reduces prefix s o made → reduce prefix s ≡ record { outcome = o; made = made }
  reduces_is (r_settled {s} {b} e) = reduce_unfolds s ∙ ap (resume (reduce prefix) s) e
  reduces_is (r_stuck {s} e) = reduce_unfolds s ∙ ap (resume (reduce prefix) s) e
  reduces_is (r_forced {s} {l} {o} {made} e r) =
      reduce_unfolds s ∙ ap (resume (reduce prefix) s) e ∙ ap (λ (x : Reduced). record { outcome = x.outcome; made = setting l s ++ x.made }) (reduces_is r)

  pub reduces : (s : List (List ℕ)) → Reduces prefix s (reduce prefix s).outcome (reduce prefix s).made
  reduces s = total (suc (size s)) s (omega arith)
    where
      total : (n : ℕ) (s : List (List ℕ)) → size s < n → Reduces prefix s (reduce prefix s).outcome (reduce prefix s).made
      total zero s h = absurd (omega arith)
      total (suc n) s h = go (step prefix s) refl (step_falls prefix s) (λ t. total n t)
        where
          go : (st : Step) → step prefix s ≡ st → Falls s st → ((t : List (List ℕ)) → size t < n → Reduces prefix t (reduce prefix t).outcome (reduce prefix t).made) →
              Reduces prefix s (reduce prefix s).outcome (reduce prefix s).made
          go (settled b) e f ih = let u : reduce prefix s ≡ record { outcome = decided b; made = [] } = reduce_unfolds s ∙ ap (resume (reduce prefix) s) e in rw u (r_settled e)
          go (forced l) e f ih =
              let u : reduce prefix s ≡ record { outcome = (reduce prefix (assigned l s)).outcome; made = setting l s ++ (reduce prefix (assigned l s)).made } = reduce_unfolds s ∙ ap (resume (reduce prefix) s) e in
              rw u (r_forced e (ih (assigned l s) (omega arith)))
          go stuck e f ih = let u : reduce prefix s ≡ record { outcome = left s; made = [] } = reduce_unfolds s ∙ ap (resume (reduce prefix) s) e in rw u (r_stuck e)

  -- what reducing comes to has the value of the set
  abbrev pub Agrees : List (List ℕ) → Outcome → Type 0
  Agrees s (decided b) = value prefix 0 s ≡ b
  Agrees s (left t) = value prefix 0 s ≡ value prefix 0 t

  agrees_from : (s t : List (List ℕ)) → value prefix 0 s ≡ value prefix 0 t → (o : Outcome) → Agrees t o → Agrees s o
  agrees_from s t e (decided b) h = e ∙ h
  agrees_from s t e (left u) h = e ∙ h

  pub reduces_keeps : {s : List (List ℕ)} {o : Outcome} {made : List (List (List ℕ))} → Reduces prefix s o made → Agrees s o
  reduces_keeps (r_settled {s} e) = rw e at (step_keeps prefix s)
  reduces_keeps (r_stuck e) = refl
  reduces_keeps {o = o} (r_forced {s} {l} e r) = agrees_from s (assigned l s) (rw e at (step_keeps prefix s)) o (reduces_keeps r)

  pub reduces_size : {s t : List (List ℕ)} {made : List (List (List ℕ))} → Reduces prefix s (left t) made → size t ≤ size s
  reduces_size (r_stuck e) = omega arith
  reduces_size (r_forced {s} {l} e r) =
      let f : size (assigned l s) < size s = rw e at (step_falls prefix s) in
      let ih = reduces_size r in
      omega arith

  pub reduces_stuck : {s t : List (List ℕ)} {made : List (List (List ℕ))} → Reduces prefix s (left t) made → step prefix t ≡ stuck
  reduces_stuck (r_stuck e) = e
  reduces_stuck (r_forced e r) = reduces_stuck r

  pub reduces_canonical : {s t : List (List ℕ)} {made : List (List (List ℕ))} → Reduces prefix s (left t) made → Canonical s → Canonical t
  reduces_canonical (r_stuck e) c = c
  reduces_canonical (r_forced {s} {l} e r) c = reduces_canonical r (forms_stay l s s c c).in_assigned

  -- the same of the function
  pub reduced_to : (s : List (List ℕ)) (o : Outcome) → (reduce prefix s).outcome ≡ o → Reduces prefix s o (reduce prefix s).made
  reduced_to s o e = subst (λ (p : Outcome). Reduces prefix s p (reduce prefix s).made) e (reduces s)
