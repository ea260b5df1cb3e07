-- A verdict that is asked for again, directly after it was found.
use Rattle.std.specs.Prelude.{◌≡◌, ℕ, Bool, List, Some}
use Rattle.qbf.specs.declared.Quantifier.{Quantifier}
use Rattle.qbf.specs.declared.Candidate.{Candidate}
use Rattle.qbf.specs.Lists.{In, Distinct}
use Rattle.qbf.specs.Nodes.{Node}
use Rattle.qbf.specs.Memo.{Pairs, Retains}
use Rattle.qbf.specs.Reduce.{decided, left, reduce}
use Rattle.qbf.specs.Numbering.{Numbering, stands}
use Rattle.qbf.specs.Decision.{Ending, verdict, Decides}

-- the verdict is known: reducing the set gives it, or a pair has it for the reduced set
pub data Known (prefix : List Quantifier) (s : List (List ℕ)) (b : Bool) (pairs : Pairs) (table : Numbering) : Type 0 where
  known_reduced : (reduce prefix s).outcome ≡ decided b → Known prefix s b pairs table
  known_held : (r : List (List ℕ)) (n : ℕ) → (reduce prefix s).outcome ≡ left r → stands table n ≡ Some r → pairs n ≡ Some b → Known prefix s b pairs table

-- and the table has all nodes of the sets that reducing makes
pub record Settled (prefix : List Quantifier) (s : List (List ℕ)) (b : Bool) (pairs : Pairs) (table : Numbering) : Type 0 where
  pub known : Known prefix s b pairs table
  pub whole : (y x : List (List ℕ)) → In y (reduce prefix s).made → Node x y → In x table
  pub apart : Distinct table

-- a decision with a memo that retains what is noted leaves its verdict so
abbrev pub DecisionSettles : {M : Type 0} → (M → Pairs) → (M → ℕ → Bool → M → Type 0) → Type 0
DecisionSettles {M} held notes =
    Retains held notes →
    (pick : List Candidate → ℕ) (prefix : List Quantifier) (allowance depth splits done : ℕ) (before after : Numbering) (memo kept : M) (s : List (List ℕ)) (b : Bool) →
    Distinct before → Decides held notes prefix pick allowance depth splits before memo s (verdict b) done after kept → Settled prefix s b (held kept) after

-- and the next decision, by any allowance, gives that verdict without a split and leaves table and memo as they are
pub record Same {M : Type 0} (b : Bool) (splits : ℕ) (before : Numbering) (memo : M) (e : Ending) (done : ℕ) (after : Numbering) (kept : M) : Type 0 where
  pub ending : e ≡ verdict b
  pub splits_same : done ≡ splits
  pub table_same : after ≡ before
  pub memo_same : kept ≡ memo

abbrev pub DecisionRepeats : {M : Type 0} → (M → Pairs) → (M → ℕ → Bool → M → Type 0) → Type 0
DecisionRepeats {M} held notes =
    (pick : List Candidate → ℕ) (prefix : List Quantifier) (allowance depth splits done : ℕ) (before after : Numbering) (memo kept : M) (s : List (List ℕ)) (b : Bool) (e : Ending) →
    Settled prefix s b (held memo) before → Decides held notes prefix pick allowance depth splits before memo s e done after kept → Same b splits before memo e done after kept
