-- What a decision comes to if the memo's pairs are right.
use Rattle.std.specs.Prelude.{◌≡◌, ℕ, ◌+◌, ◌<◌, ◌≤◌, Bool, List, length}
use Rattle.qbf.specs.declared.Quantifier.{Quantifier}
use Rattle.qbf.specs.declared.Candidate.{Candidate}
use Rattle.qbf.specs.Lists.{In, Distinct}
use Rattle.qbf.specs.Memo.{Pairs, NeverHolds}
use Rattle.qbf.specs.Chooser.{Picks}
use Rattle.qbf.specs.Value.{value}
use Rattle.qbf.specs.Walk.{bare}
use Rattle.qbf.specs.Numbering.{Numbering, capacity, Among, Gains}
use Rattle.qbf.specs.Decision.{Ending, verdict, refused, full, spent, too_deep, most_open, Decides, Right}

-- the table is full of different sets, and lacks a node of one of the given ones
pub record Overfull (sets : List (List (List ℕ))) (table : Numbering) : Type 0 where
  pub full : length table ≡ capacity
  pub apart : Distinct table
  pub lacking : (x : List (List ℕ)) × Among sets x × (In x table → ⊥)

-- A decision of the set s ended, from the splits and the table before it to those after it.
pub record Judged (pick : List Candidate → ℕ) (prefix : List Quantifier) (allowance depth splits : ℕ) (before : Numbering) (s : List (List ℕ)) (e : Ending) (done : ℕ) (after : Numbering) : Type 0 where
  -- a verdict is the value by full expansion
  pub right : (b : Bool) → e ≡ verdict b → b ≡ value prefix 0 s
  -- it made at most the splits of the bare walk from there
  pub since : splits ≤ done
  pub most : done ≤ splits + (bare pick prefix s).splits
  -- and never more than its allowance
  pub allowed : splits ≤ allowance → done ≤ allowance
  -- it is spent only at its allowance, and where the bare walk makes more splits than were left of it
  pub deserved : e ≡ refused spent → (done ≡ allowance) × (allowance < splits + (bare pick prefix s).splits)
  -- it is too deep only where the bare walk is
  pub deep : e ≡ refused too_deep → most_open < depth + (bare pick prefix s).depth
  -- the sets that it made are sets that the bare walk makes: the table gained only nodes of these
  pub gains : Gains before (bare pick prefix s).made after
  -- and is full only where one of these has a node more
  pub crowded : e ≡ refused full → Overfull (bare pick prefix s).made after

-- for every chooser: a decision whose memo is right comes to this, and leaves the memo right
abbrev pub DecisionRight : {M : Type 0} → (M → Pairs) → (M → ℕ → Bool → M → Type 0) → Type 0
DecisionRight {M} held notes =
    (pick : List Candidate → ℕ) → Picks pick → (prefix : List Quantifier) (allowance depth splits done : ℕ) (before after : Numbering) (memo kept : M) (s : List (List ℕ)) (e : Ending) →
    Decides held notes prefix pick allowance depth splits before memo s e done after kept → Right prefix before (held memo) →
    Judged pick prefix allowance depth splits before s e done after × Right prefix after (held kept)

-- with a memo that never holds a pair, a verdict has exactly the splits of the bare walk
abbrev pub DecisionBlank : {M : Type 0} → (M → Pairs) → (M → ℕ → Bool → M → Type 0) → Type 0
DecisionBlank {M} held notes =
    NeverHolds held →
    (pick : List Candidate → ℕ) → Picks pick → (prefix : List Quantifier) (allowance depth splits done : ℕ) (before after : Numbering) (memo kept : M) (s : List (List ℕ)) (b : Bool) →
    Decides held notes prefix pick allowance depth splits before memo s (verdict b) done after kept →
    (b ≡ (bare pick prefix s).verdict) × (done ≡ splits + (bare pick prefix s).splits)
