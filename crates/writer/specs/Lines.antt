-- The lines of a prefix.
use Rattle.std.specs.Prelude.{List}
use Rattle.qbf.specs.declared.Quantifier.{Quantifier}
use Rattle.formula.specs.declared.prefix.Binding.{Binding}
use Rattle.formula.specs.Positions.{variables_of}
use Rattle.rendering.specs.Render.{Block}

-- the block of bindings that all have the quantifier
abbrev pub block_of : Quantifier → List Binding → Block
block_of q bs = record { quantifier = q; variables = variables_of bs }
