-- Which clauses stand in the sets that the operations make, and that a set has one form.
use Rattle.std.specs.Prelude.{◌≡◌, ℕ, ◌+◌, ◌<◌, ◌≤◌, ◌⊎◌, ◌↔◌, List, ◌∷◌, length}
use Rattle.qbf.specs.Literals.{complement}
use Rattle.qbf.specs.Lists.{In, without}
use Rattle.qbf.specs.Clauses.{Rising, Canonical, union, holding, lacking, taken_out, assigned}
use Rattle.qbf.specs.Nodes.{with_side, without_side}
use Rattle.sets.specs.Sides.{joined}
use Rattle.sets.specs.Ordered.{clause_of}

-- a clause is in the union exactly if it is in one of the two
abbrev pub UnionMembers : Type 0
UnionMembers = (c : List ℕ) (s t : List (List ℕ)) → In c (union s t) ↔ (In c s ⊎ In c t)

abbrev pub LackingMembers : Type 0
LackingMembers = (l : ℕ) (c : List ℕ) (s : List (List ℕ)) → In c (lacking l s) ↔ (In c s × (In l c → ⊥))

abbrev pub HoldingMembers : Type 0
HoldingMembers = (l : ℕ) (c : List ℕ) (s : List (List ℕ)) → In c (holding l s) ↔ (In c s × In l c)

abbrev pub TakenOutMembers : Type 0
TakenOutMembers = (l : ℕ) (c : List ℕ) (s : List (List ℕ)) → In c (taken_out l s) ↔ ((d : List ℕ) × In d s × In l d × (c ≡ without l d))

-- a literal occurs in the set exactly if the number of clauses that hold it is above 0
abbrev pub OccursCounted : Type 0
OccursCounted = (l : ℕ) (s : List (List ℕ)) → (0 < length (holding l s)) ↔ ((c : List ℕ) × In c s × In l c)

-- setting l true drops the clauses that hold it and takes its complement out of the others
abbrev pub AssignedMembers : Type 0
AssignedMembers = (l : ℕ) (c : List ℕ) (s : List (List ℕ)) → In c (assigned l s) ↔ ((d : List ℕ) × In d s × (In l d → ⊥) × (c ≡ without (complement l) d))

-- each operation keeps the one form
pub record FormsKept (l : ℕ) (s t : List (List ℕ)) : Type 0 where
  pub in_union : Canonical (union s t)
  pub in_lacking : Canonical (lacking l s)
  pub in_holding : Canonical (holding l s)
  pub in_taken_out : Canonical (taken_out l s)
  pub in_assigned : Canonical (assigned l s)

abbrev pub FormsStay : Type 0
FormsStay = (l : ℕ) (s t : List (List ℕ)) → Canonical s → Canonical t → FormsKept l s t

-- sets with the same clauses are equal
abbrev pub OneForm : Type 0
OneForm = (s t : List (List ℕ)) → Canonical s → Canonical t → ((c : List ℕ) → In c s ↔ In c t) → s ≡ t

-- a set with a non-empty clause is its with-side, with the lowest code in front, and its without-side
abbrev pub SidesMake : Type 0
SidesMake = (k : ℕ) (c : List ℕ) (s : List (List ℕ)) → Canonical ((k ∷ c) ∷ s) → (k ∷ c) ∷ s ≡ joined k (with_side k ((k ∷ c) ∷ s)) (without_side k ((k ∷ c) ∷ s))

-- a clause from its codes rises, and has these codes
abbrev pub ClauseMembers : Type 0
ClauseMembers = (codes : List ℕ) → Rising (clause_of codes) × ((x : ℕ) → In x (clause_of codes) ↔ In x codes)

-- no operation makes more clauses than it is given
pub record FewClauses (l : ℕ) (s t : List (List ℕ)) : Type 0 where
  pub in_union : length (union s t) ≤ length s + length t
  pub in_lacking : length (lacking l s) ≤ length s
  pub in_taken_out : length (taken_out l s) ≤ length s
  pub in_assigned : length (assigned l s) ≤ length s

abbrev pub FewMade : Type 0
FewMade = (l : ℕ) (s t : List (List ℕ)) → FewClauses l s t
