-- What the marks and counts of the literals of a set tell.
use Rattle.std.specs.Prelude.{◌≡◌, ℕ, ◌+◌, ◌/◌, Bool, false, ◌&&◌, ◌||◌, List, map, get_or, drop, ◌==◌, nat_lt, slice_index, slice_index_or}
use Rattle.qbf.specs.declared.Quantifier.{Quantifier}
use Rattle.qbf.specs.declared.Quantifier.TheVariants.{Existential}
use Rattle.qbf.specs.declared.Candidate.{Candidate}
use Rattle.qbf.specs.Literals.{complement, positive, negative}
use Rattle.qbf.specs.Reduce.{same}
use Rattle.qbf.specs.Walk.{candidate}
use Rattle.formula.specs.declared.prefix.Binding.{Binding}
use Rattle.survey.specs.Surveyed.{Counted}
use Rattle.theory.specs.Blocks.{neighbours}
use Rattle.reduction.specs.declared.candidates.Candidates.{Candidates}
use Rattle.reduction.specs.Numbered.{quantified}
use Rattle.reduction.specs.Outcomes.{candidates_of}

-- the quantifier of the variable at a place (existential past the end)
abbrev pub bound_at : List Binding → ℕ → Quantifier
bound_at bs i = (get_or bs i (record { variable = 0; quantifier = Existential })).quantifier

-- by the mark of each literal, whether it is a clause of its own, on a variable that q binds
abbrev pub unit_by : List Bool → Quantifier → List Binding → ℕ → Bool
unit_by units q bs l = slice_index_or units l false && same q (bound_at bs (l / 2))

-- by the number of clauses of each literal, whether the literal occurs while its complement does not
abbrev pub lone_by : List ℕ → ℕ → Bool
lone_by counts l = nat_lt 0 (slice_index counts l) && slice_index counts (complement l) == 0

-- by the number of clauses of each literal, what is told of the variable x
abbrev pub candidate_by : List ℕ → ℕ → Candidate
candidate_by counts x = record { position = x + 1; positive = slice_index counts (positive x); negative = slice_index counts (negative x) }

-- whether a clause has one of its literals
abbrev pub occurring : Candidate → Bool
occurring c = nat_lt 0 c.positive || nat_lt 0 c.negative

-- of a set with these counts: the neighbours from the place i on that have its quantifier, as far as they occur
pub record BlockFrom (counts : List ℕ) (bs : List Binding) (i : ℕ) (found : Candidates) : Type 0 where
  pub block : found.quantifier ≡ bound_at bs i
  pub listed : (s : List (List ℕ)) → Counted s counts → candidates_of found ≡ map (candidate s) (neighbours (bound_at bs i) (quantified (drop i bs)) i s)
