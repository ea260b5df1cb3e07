-- What a look over a set tells of each of the 512 codes.
use Rattle.std.specs.Prelude.{◌≡◌, ℕ, ◌+◌, ◌<◌, Bool, false, List, [], ◌∷◌, length, Decides, slice_index, slice_index_or}
use Rattle.qbf.specs.Lists.{In}
use Rattle.qbf.specs.Clauses.{holding}

-- for each code, the number of clauses that hold it
abbrev pub Counted : List (List ℕ) → List ℕ → Type 0
Counted s counts = (l : ℕ) → l < 512 → slice_index counts l ≡ length (holding l s)

-- for each code, the count has grown by the number of clauses that hold it
abbrev pub Tallied : List (List ℕ) → List ℕ → List ℕ → Type 0
Tallied s before after = (l : ℕ) → l < 512 → slice_index after l ≡ slice_index before l + length (holding l s)

-- with n more clauses no count passes 65,535
abbrev pub Roomy : ℕ → List ℕ → Type 0
Roomy n counts = (l : ℕ) → l < 512 → slice_index counts l + n < 65536

-- for each code, whether it is a clause of its own
abbrev pub UnitsOf : List (List ℕ) → List Bool → Type 0
UnitsOf s units = (l : ℕ) → l < 512 → Decides (slice_index_or units l false) (In (l ∷ []) s)
