-- The answers of the code in the terms of the definitions.
use Rattle.std.specs.Prelude.{◌≡◌, ℕ, ◌<◌, ◌≤◌, List, length, Some, None, Ok, Err, Option, Result}
use Rattle.arrays.specs.Lists.{items_of}
use Rattle.qbf.specs.declared.Quantifier.{Quantifier}
use Rattle.qbf.specs.declared.Candidate.{Candidate}
use Rattle.qbf.specs.Clauses.{assigned, setting}
use Rattle.qbf.specs.Reduce.{Outcome, decided, left, Step as Line, settled, forced, stuck}
use Rattle.qbf.specs.Walk.{candidates}
use Rattle.qbf.specs.Numbering.{Makes, Stops}
use Rattle.table.specs.declared.table.Full.{Full}
use Rattle.table.specs.declared.table.Table.{Table}
use Rattle.table.specs.Tables.{Number, clauses}
use Rattle.reduction.specs.declared.candidates.Candidates.{Candidates}
use Rattle.reduction.specs.declared.reducing.Reduced.{Reduced}
use Rattle.reduction.specs.declared.reducing.Reduced.TheVariants.{Decided, Left}
use Rattle.reduction.specs.declared.step.Step.{Step}
use Rattle.reduction.specs.declared.step.Step.TheVariants.{Settled, Forced, Stuck}
use Rattle.reduction.specs.Numbered.{sets_of, Ready}

-- what a step asks for
abbrev pub step_of : Step → Line
step_of (Settled b) = settled b
step_of (Forced l) = forced l
step_of Stuck = stuck

-- what reducing came to, in the table that it left: none if the table is full
abbrev pub outcome_of : Table → Result Reduced Full → Option Outcome
outcome_of t (Ok (Decided b)) = Some (decided b)
outcome_of t (Ok (Left n)) = Some (left (clauses t n))
outcome_of t (Err e) = None

-- n is the number of a reduced set: a node's, and there is a variable to split
pub record Splittable (prefix : List Quantifier) (t : Table) (n : ℕ) : Type 0 where
  pub ready : Ready prefix t n
  pub node : 2 ≤ n
  pub shown : 0 < length (candidates prefix (clauses t n))

-- a number that reducing leaves is such a one
abbrev pub Leaves : List Quantifier → Table → Result Reduced Full → Type 0
Leaves prefix t (Ok (Decided b)) = Unit {0}
Leaves prefix t (Ok (Left n)) = Splittable prefix t n
Leaves prefix t (Err e) = Unit {0}

-- n is the number of the set s with the literal l set true, and its four sets were made
pub record Assigned (before : Table) (s : List (List ℕ)) (l : ℕ) (after : Table) (n : ℕ) : Type 0 where
  pub makes : Makes (sets_of before) (setting l s) (sets_of after)
  pub held : Number after n
  pub means : clauses after n ≡ assigned l s

-- the literal l was set true in the set s, or one of the four sets could not be made
abbrev pub SetTrue : Table → List (List ℕ) → ℕ → Table → Result ℕ Full → Type 0
SetTrue before s l after (Ok n) = Assigned before s l after n
SetTrue before s l after (Err e) = Stops (sets_of before) (setting l s) (sets_of after)

-- a set over a prefix stays one
abbrev pub StaysReady : Table → ℕ → Table → Result ℕ Full → Type 0
StaysReady before n after (Ok m) = (prefix : List Quantifier) → Ready prefix before n → Ready prefix after m
StaysReady before n after (Err e) = Unit {0}

-- the candidates that were found, in prefix order
abbrev pub candidates_of : Candidates → List Candidate
candidates_of c = items_of c.list
