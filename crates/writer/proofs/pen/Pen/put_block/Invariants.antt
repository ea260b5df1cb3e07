use Rattle.std.proofs.Common.{drop, map, decimal}
use Rattle.formula.specs.Positions.{variables_of}
use Rattle.grammar.specs.Grammar.{zero_word}
use Rattle.rendering.specs.Render.{line}
use Rattle.writer.proofs.Puts.{Left}
use Rattle.writer.proofs.pen.Pen.put_block.Given as goal

abbrev pub invariant-loop-binding : goal.invariant-loop-binding
invariant-loop-binding l =
    Left l.initial.self (line (map decimal (variables_of l.block)) zero_word) (line (map decimal (variables_of (drop l.binding-index l.block))) zero_word) l.self
