use Rattle.table.specs.Sets.{clauses_of}
use Rattle.writer.proofs.Written.{parts_put}
use Rattle.writer.proofs.whole.Content.put_text.Goals as goal

pub returns : goal.returns
returns c =
    let s = c.args.self.now in
    parts_put s.variables (clauses_of s.set) c.put_problem.ensures c.put_prefix.ensures c.put_clauses.ensures.text c.count_clauses.ensures c.bindings-prefix.ensures c.new.ensures
