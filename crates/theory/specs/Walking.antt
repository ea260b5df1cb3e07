-- The bare walk ends, and its verdict is the value by full expansion.
use Rattle.std.specs.Prelude.{◌≡◌, ℕ, ◌<◌, List, length}
use Rattle.qbf.specs.declared.Quantifier.{Quantifier}
use Rattle.qbf.specs.declared.Candidate.{Candidate}
use Rattle.qbf.specs.Literals.{positive, negative}
use Rattle.qbf.specs.Lists.{In}
use Rattle.qbf.specs.Chooser.{Picks}
use Rattle.qbf.specs.Clauses.{assigned}
use Rattle.qbf.specs.Value.{combine, value}
use Rattle.qbf.specs.Reduce.{Within, reduce}
use Rattle.qbf.specs.Walk.{outermost, candidates, after, turn, bare}
use Rattle.theory.specs.Reducing.{Clean}

-- any variable of the outermost block that occurs may be split first
abbrev pub SplitFirst : Type 0
SplitFirst =
    (prefix : List Quantifier) (s : List (List ℕ)) (x : ℕ) → In x (outermost prefix s).variables →
    value prefix 0 s ≡ combine (outermost prefix s).quantifier (value prefix 0 (assigned (negative x) s)) (value prefix 0 (assigned (positive x) s))

-- a reduced set has a candidate
abbrev pub SomeCandidate : Type 0
SomeCandidate = (prefix : List Quantifier) (s : List (List ℕ)) → Within prefix s → Clean s → 0 < length (candidates prefix s)

-- the walk ends, for every chooser: it is reducing and one turn, with the whole walk at each side, and with no bound on the splits
abbrev pub WalkEnds : Type 0
WalkEnds =
    (pick : List Candidate → ℕ) → Picks pick → (prefix : List Quantifier) (s : List (List ℕ)) →
    bare pick prefix s ≡ after (reduce prefix s).made (turn pick (bare pick prefix) prefix (reduce prefix s).outcome)

-- and its verdict is the value by full expansion
abbrev pub WalkRight : Type 0
WalkRight = (pick : List Candidate → ℕ) → Picks pick → (prefix : List Quantifier) (s : List (List ℕ)) → (bare pick prefix s).verdict ≡ value prefix 0 s
