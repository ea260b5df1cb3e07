use Rattle.std.proofs.Common.{sym, ◌∙◌, arith}
use Rattle.formula.specs.Views.{bindings_of}
use Rattle.formula.proofs.Positions.{found_within}
use Rattle.reader.proofs.Bound.{prefix_few}
use Rattle.reader.proofs.Stored.{total_used}
use Rattle.reader.proofs.clauses.on_clause_word.Goals as goal

pub code_at-requires : goal.code_at-requires
code_at-requires c =
    let bs = bindings_of c.args.draft.now.prefix in
    let f = prefix_few bs c.requires.fine.once c.requires.fine.bound in
    let w = found_within 0 c.in-Some.literal.variable bs c.in_ok-place-in-Some.place (sym c.position.ensures ∙ c.in_ok-place-in-Some.ensures.ok_part) in
    omega arith

pub push_literal-requires : goal.push_literal-requires
push_literal-requires c = omega (arith, c.requires.room, total_used c.args.draft.now.clauses)
