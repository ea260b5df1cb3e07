-- The picks of the delivered choosers, by which of two candidates each prefers.
use Rattle.std.specs.Prelude.{ℕ, ◌+◌, Bool, ◌&&◌, ◌||◌, List, [], ◌∷◌, ◌==◌, nat_lt}
use Rattle.std.specs.List.{best_of}
use Rattle.qbf.specs.declared.Candidate.{Candidate}

-- the position of the best candidate: each in turn takes the place of the best so far if it beats it (no chooser is shown an empty list)
abbrev pub preferred : (Candidate → Candidate → Bool) → List Candidate → ℕ
preferred beats [] = 0
preferred beats (c ∷ cs) = (best_of beats c cs).position

-- one has the lower position
abbrev pub lower : Candidate → Candidate → Bool
lower c d = nat_lt c.position d.position

-- the sum of a candidate's two clause counts
abbrev pub load : Candidate → ℕ
load c = c.positive + c.negative

-- one has the larger sum, or the lower position at equal sums
abbrev pub busier : Candidate → Candidate → Bool
busier c d = nat_lt (load d) (load c) || (load d == load c && lower c d)

-- what First picks
abbrev pub first_picks : List Candidate → ℕ
first_picks cs = preferred lower cs

-- what Busiest picks
abbrev pub busiest_picks : List Candidate → ℕ
busiest_picks cs = preferred busier cs
