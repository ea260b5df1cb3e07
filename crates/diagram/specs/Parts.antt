-- The two parts of a set at a literal.
use Rattle.std.specs.Prelude.{ℕ, List}
use Rattle.qbf.specs.Clauses.{lacking, taken_out}
use Rattle.diagram.specs.declared.literal.Part.{Part}
use Rattle.diagram.specs.declared.literal.Part.TheVariants.{Lacking, TakenOut}

-- the clauses that a part has
abbrev pub part_of : Part → ℕ → List (List ℕ) → List (List ℕ)
part_of Lacking l s = lacking l s
part_of TakenOut l s = taken_out l s

-- which of the numbers of a set's sides at the literal is the part's
abbrev pub side_of : Part → ℕ → ℕ → ℕ
side_of Lacking with without = without
side_of TakenOut with without = with
