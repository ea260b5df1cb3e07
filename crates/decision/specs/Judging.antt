-- A decision in the subject's terms, from the table and the memo before it to those after it.
use Rattle.std.specs.Prelude.{◌≡◌, ℕ, Bool, List}
use Rattle.qbf.specs.declared.Quantifier.{Quantifier}
use Rattle.qbf.specs.declared.Candidate.{Candidate}
use Rattle.qbf.specs.Memo.{Pairs, NeverHolds}
use Rattle.qbf.specs.Walk.{bare}
use Rattle.qbf.specs.Numbering.{Numbering}
use Rattle.qbf.specs.Decision.{Ending, verdict, Right}
use Rattle.theory.specs.Deciding.{Judged}

-- If the memo's pairs are right, the answer is as judged by the value and the bare walk, and the pairs stay right.
abbrev pub StaysRight : {M : Type 0} → (M → Pairs) → List Quantifier → (List Candidate → ℕ) → ℕ → Numbering → M → List (List ℕ) → Ending → ℕ → Numbering → M → Type 0
StaysRight held prefix pick allowance before memo s e done after kept =
    Right prefix before (held memo) → Judged pick prefix allowance 0 0 before s e done after × Right prefix after (held kept)

-- With a make of memo that never holds a pair, a verdict has exactly the splits of the bare walk.
abbrev pub Unaided : {M : Type 0} → (M → Pairs) → List Quantifier → (List Candidate → ℕ) → List (List ℕ) → Ending → ℕ → Type 0
Unaided {M} held prefix pick s e done = NeverHolds held → (b : Bool) → e ≡ verdict b → done ≡ (bare pick prefix s).splits
