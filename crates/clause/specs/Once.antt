-- A clause is a set of literals; as it was written, it is a list of their codes.
use Rattle.std.specs.Prelude.{◌≡◌, ℕ, ◌<◌, ◌≤◌, Bool, true, ◌&&◌, List, [], ◌∷◌, length, Decides}
use Rattle.std.specs.List.{AllByRecursion, list_all, list_any}
use Rattle.qbf.specs.Literals.{complement}
use Rattle.qbf.specs.Lists.{In, Distinct, mem, without}

-- each literal of the list once, where it first stands
abbrev pub once : List ℕ → List ℕ
once [] = []
once (c ∷ cs) = c ∷ without c (once cs)

-- whether some variable stands in the list with both signs
abbrev pub both_signs : List ℕ → Bool
both_signs cs = list_any (λ c. mem (complement c) cs) cs

-- whether each literal of the first list stands in the second
abbrev pub within : List ℕ → List ℕ → Bool
within a b = list_all (λ c. mem c b) a

-- whether two lists have the same literals, in whatever order
abbrev pub same_set : List ℕ → List ℕ → Bool
same_set a b = within a b && within b a

-- what these mean for a list, as a set of literals
pub record SetLaws (cs : List ℕ) : Type 0 where
  -- each literal of the list stands in 'once', and no other
  pub once_keeps : (k : ℕ) → In k cs → In k (once cs)
  pub once_adds_none : (k : ℕ) → In k (once cs) → In k cs
  -- none stands there twice
  pub once_distinct : Distinct (once cs)
  pub once_length : length (once cs) ≤ length cs
  pub once_small : (n : ℕ) → AllByRecursion (λ c. c < n) cs → AllByRecursion (λ c. c < n) (once cs)
  -- 'both signs' tells whether a literal and its complement both stand in the list
  pub signs : Decides (both_signs cs) ((k : ℕ) × In k cs × In (complement k) cs)
  pub same_itself : same_set cs cs ≡ true

-- and for two lists
pub record PairLaws (a b : List ℕ) : Type 0 where
  -- 'same set' tells whether the two lists have the same literals
  pub same : Decides (same_set a b) ((k : ℕ) → (In k a → In k b) × (In k b → In k a))
  pub same_turned : same_set a b ≡ same_set b a

-- the laws hold for all lists
abbrev pub OnceStands : Type 0
OnceStands = ((cs : List ℕ) → SetLaws cs) × ((a b : List ℕ) → PairLaws a b)
