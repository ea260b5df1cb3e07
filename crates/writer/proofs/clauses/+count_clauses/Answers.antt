use Rattle.std.proofs.Common.{◌∙◌, arith}
use Rattle.writer.proofs.Below.{small_length, lengths}
use Rattle.writer.proofs.clauses.+count_clauses.Goals as goal

pub returns-in_default : goal.returns-in_default
returns-in_default t c = c.number.ensures ∙ small_length c.args.set c.in_default.ensures

pub returns : goal.returns
returns t c =
    let l = lengths c.args.set c.in-Some.branches c.in-Some.ensures in
    omega (arith, c.count_clauses.ensures, c.count_clauses-2.ensures)
