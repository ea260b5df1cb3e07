use Rattle.std.proofs.Common.{List, map, decimal, refl}
use Rattle.std.proofs.lemmas.List.{at_drop_more, at_drop_all}
use Rattle.formula.specs.declared.prefix.Binding.{Binding}
use Rattle.formula.specs.Positions.{variables_of}
use Rattle.grammar.specs.Grammar.{zero_word}
use Rattle.rendering.specs.Render.{line}
use Rattle.writer.proofs.Puts.{puts_then, left_next, left_last}
use Rattle.writer.proofs.pen.Pen.put_block.Goals as goal

pub loop-binding-preserved : goal.loop-binding-preserved
loop-binding-preserved c =
    left_next (left_next c.loop-binding.invariant c.put_number.ensures (at_drop_more (λ (bs : List Binding). line (map decimal (variables_of bs)) zero_word) _ _ _ c.loop-binding-test.true)) c.put-in-loop-binding.ensures refl

pub returns : goal.returns
returns c =
    rw (← c.letter.ensures) (puts_then c.put.ensures (puts_then c.put-2.ensures (left_last c.loop-binding.invariant c.put-3.ensures (at_drop_all (λ (bs : List Binding). line (map decimal (variables_of bs)) zero_word) _ _ c.loop-binding-test.false))))
