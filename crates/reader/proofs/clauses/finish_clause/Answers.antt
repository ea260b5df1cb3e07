use Rattle.std.proofs.Common.{length, ap, ◌∙◌, arith}
use Rattle.clause.specs.Once.{once}
use Rattle.clause.proofs.Sets.{once_length}
use Rattle.formula.specs.Views.{begun_of}
use Rattle.formula.proofs.Begun.{room_with_begun}
use Rattle.reader.proofs.clauses.finish_clause.Goals as goal

pub push-requires-clause-room : goal.push-requires-clause-room
push-requires-clause-room c =
    let t = c.args.clauses.now in
    omega (arith, room_with_begun t, once_length (begun_of t), ap length (c.codes.ensures ∙ c.of-clause.ensures.codes ∙ ap once c.begun.ensures))
