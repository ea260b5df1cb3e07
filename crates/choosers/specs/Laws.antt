-- What First and Busiest pick from every list that is not empty.
use Rattle.std.specs.Prelude.{◌≡◌, ℕ, ◌<◌, ◌≤◌, List, length}
use Rattle.std.specs.List.{AllByRecursion}
use Rattle.qbf.specs.Lists.{In}
use Rattle.qbf.specs.Chooser.{Listed}
use Rattle.qbf.specs.declared.Candidate.{Candidate}
use Rattle.choosers.specs.Preferred.{first_picks, busiest_picks, load}

-- the lowest listed position
pub record Lowest (cs : List Candidate) (p : ℕ) : Type 0 where
  pub listed : Listed p cs
  pub lowest : AllByRecursion (λ c. p ≤ c.position) cs

abbrev pub FirstLowest : Type 0
FirstLowest = (cs : List Candidate) → 0 < length cs → Lowest cs (first_picks cs)

-- the position of a listed candidate that has the largest sum, and the lowest position of all that have it
pub record Largest (cs : List Candidate) (p : ℕ) : Type 0 where
  pub pick : Candidate
  pub listed : In pick cs
  pub position : p ≡ pick.position
  pub largest : AllByRecursion (λ c. load c ≤ load pick) cs
  pub lowest : AllByRecursion (λ c. load c ≡ load pick → p ≤ c.position) cs

abbrev pub BusiestLargest : Type 0
BusiestLargest = (cs : List Candidate) → 0 < length cs → Largest cs (busiest_picks cs)
