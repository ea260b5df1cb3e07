-- What a chooser means: a function from candidate lists that gives a listed position where the list is not empty.
use Rattle.std.specs.Prelude.{◌≡◌, ℕ, ◌<◌, ◌⊎◌, List, [], ◌∷◌, length}
use Rattle.qbf.specs.declared.Candidate.{Candidate}

-- a candidate of the list has this position
abbrev pub Listed : ℕ → List Candidate → Type 0
Listed p [] = ⊥
Listed p (c ∷ cs) = (p ≡ c.position) ⊎ Listed p cs

-- a function that always picks a listed position
abbrev pub Picks : (List Candidate → ℕ) → Type 0
Picks pick = (cs : List Candidate) → 0 < length cs → Listed (pick cs) cs
