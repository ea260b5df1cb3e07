use Rattle.std.proofs.Common.{take, get_or, ◌∙◌}
use Rattle.std.proofs.lemmas.List.{take_more}
use Rattle.clause.specs.Codes.{codes_of}
use Rattle.clause.proofs.Marked.{marked_none}
use Rattle.clause.proofs.Progress.{codes_more, signs_more}
use Rattle.clause.proofs.Clause.of.Goals as goal

pub invariant_of-clause : goal.invariant_of-clause
invariant_of-clause c = record { apart = rw c.new.ensures; marked = λ k. rw c.new.ensures (marked_none _ c.new-2.ensures k) }

pub loop-literal-preserved : goal.loop-literal-preserved
loop-literal-preserved c =
    let i = c.loop-literal.literal-index in
    let xs = take i c.args.literals.now in
    let ys = codes_of c.loop-literal.clause in
    let x = get_or c.args.literals.now i 0 in
    rw (take_more c.args.literals.now i 0 c.loop-literal-test.true) (
      c.add.ensures.codes ∙ codes_more xs ys x c.loop-literal.invariant.0,
      c.add.ensures.flag ∙ signs_more xs ys _ x c.loop-literal.invariant.0 c.loop-literal.invariant.1,
    )
