use Rattle.std.proofs.Common.{refl}
use Rattle.std.proofs.lemmas.List.{at_drop_more, at_drop_all}
use Rattle.rendering.specs.Render.{clause_line}
use Rattle.writer.proofs.Puts.{left_next, left_last}
use Rattle.writer.proofs.pen.Pen.put_clause.Goals as goal

pub loop-code-preserved : goal.loop-code-preserved
loop-code-preserved c =
    left_next (left_next c.loop-code.invariant c.put_literal.ensures (at_drop_more (clause_line c.args.prefix.now) _ _ 0 c.loop-code-test.true)) c.put.ensures refl

pub returns : goal.returns
returns c = left_last c.loop-code.invariant c.put-2.ensures (at_drop_all (clause_line c.args.prefix.now) _ _ c.loop-code-test.false)
