-- The parts of a decision, by the functions that carry them out.
use Rattle.std.specs.Prelude.{◌≡◌, ℕ, Bool, true, false, List}
use Rattle.qbf.specs.declared.Quantifier.{Quantifier}
use Rattle.qbf.specs.declared.Candidate.{Candidate}
use Rattle.qbf.specs.Literals.{positive, negative}
use Rattle.qbf.specs.Memo.{Pairs}
use Rattle.qbf.specs.Clauses.{assigned, setting}
use Rattle.qbf.specs.Walk.{outermost, candidates, picked, ends}
use Rattle.qbf.specs.Numbering.{Numbering, Makes, Stops}
use Rattle.qbf.specs.Decision.{Refusal, full, Ending, verdict, refused, Unknown, Decides}
use Rattle.decision.specs.declared.choice.Choice.{Choice}

-- the variable that the chooser picks of the reduced set r, with its quantifier
pub record Chosen (prefix : List Quantifier) (pick : List Candidate → ℕ) (r : List (List ℕ)) (choice : Choice) : Type 0 where
  pub variable : choice.variable ≡ picked pick (candidates prefix r)
  pub quantifier : choice.quantifier ≡ (outermost prefix r).quantifier

-- One side of a split of the set r: its literal l is set true, which may fill the table, and the result is decided.
pub data Side {M : Type 0} (held : M → Pairs) (notes : M → ℕ → Bool → M → Type 0) (prefix : List Quantifier) (pick : List Candidate → ℕ) (allowance depth splits : ℕ)
    (before : Numbering) (memo : M) (r : List (List ℕ)) (l : ℕ) : Ending → ℕ → Numbering → M → Type 0 where
  unmade : {after : Numbering} → Stops before (setting l r) after → Side held notes prefix pick allowance depth splits before memo r l (refused full) splits after memo
  walked : {made after : Numbering} {kept : M} {e : Ending} {done : ℕ} →
      Makes before (setting l r) made → Decides held notes prefix pick allowance depth splits made memo (assigned l r) e done after kept →
      Side held notes prefix pick allowance depth splits before memo r l e done after kept

-- Both sides of a split of the set r: the variable is set false, and true only if the first verdict does not end the split.
pub data Sides {M : Type 0} (held : M → Pairs) (notes : M → ℕ → Bool → M → Type 0) (prefix : List Quantifier) (pick : List Candidate → ℕ) (allowance depth splits : ℕ)
    (before : Numbering) (memo : M) (r : List (List ℕ)) (choice : Choice) : Ending → ℕ → Numbering → M → Type 0 where
  first_refused : {f : Refusal} {done : ℕ} {after : Numbering} {kept : M} →
      Side held notes prefix pick allowance depth splits before memo r (negative choice.variable) (refused f) done after kept →
      Sides held notes prefix pick allowance depth splits before memo r choice (refused f) done after kept
  first_ends : {b : Bool} {done : ℕ} {after : Numbering} {kept : M} →
      Side held notes prefix pick allowance depth splits before memo r (negative choice.variable) (verdict b) done after kept →
      ends choice.quantifier b ≡ true →
      Sides held notes prefix pick allowance depth splits before memo r choice (verdict b) done after kept
  second : {b : Bool} {e : Ending} {half done : ℕ} {between after : Numbering} {m kept : M} →
      Side held notes prefix pick allowance depth splits before memo r (negative choice.variable) (verdict b) half between m →
      ends choice.quantifier b ≡ false →
      Side held notes prefix pick allowance depth half between m r (positive choice.variable) e done after kept →
      Sides held notes prefix pick allowance depth splits before memo r choice e done after kept

-- A verdict is noted for the number n; nothing is noted of a decision that was refused.
abbrev pub Noted : {M : Type 0} → (M → ℕ → Bool → M → Type 0) → M → ℕ → Ending → M → Type 0
Noted notes before n (verdict b) after = notes before n b after
Noted notes before n (refused f) after = after ≡ before

-- What follows once a set is reduced to r, of number n, which the memo does not know: every set that reduces to it is decided so.
abbrev pub GoesOn : {M : Type 0} → (M → Pairs) → (M → ℕ → Bool → M → Type 0) → List Quantifier → (List Candidate → ℕ) → ℕ → ℕ → ℕ →
    Numbering → M → List (List ℕ) → ℕ → Ending → ℕ → Numbering → M → Type 0
GoesOn held notes prefix pick allowance depth splits before memo r n e done after kept =
    (t : Numbering) (s : List (List ℕ)) → Unknown held prefix t memo s r n before →
    Decides held notes prefix pick allowance depth splits t memo s e done after kept
