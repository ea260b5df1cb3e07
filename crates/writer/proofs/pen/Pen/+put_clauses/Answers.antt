use Rattle.std.proofs.Common.{◌≡◌, ℕ, ◌∙◌, arith}
use Rattle.arrays.specs.Lists.{items_of}
use Rattle.writer.proofs.Below.{no_lines, one_line, popped, lines_split, short, below_high, below_low}
use Rattle.writer.proofs.Puts.{puts_none, puts_then}
use Rattle.writer.proofs.pen.Pen.+put_clauses.Goals as goal
use Rattle.writer.proofs.pen.Pen.+put_clauses.Goals.{After-pop}

pub returns-then-number-eq1-clause-text : goal.returns-then-number-eq1-clause-text
returns-then-number-eq1-clause-text t c = rw (← one_line c.args.set c.number.result c.args.prefix.now (items_of c.args.path.now) _ c.number.ensures c.if-number-eq1.true c.as_slice.ensures) c.put_clause.ensures

pub returns-else-number-eq1-clause-text : goal.returns-else-number-eq1-clause-text
returns-else-number-eq1-clause-text t c =
    rw (← no_lines c.args.set c.number.result c.args.prefix.now (items_of c.args.path.now) c.in_default.ensures c.number.ensures c.if-number-eq1.false) (puts_none _)

pub push-requires : goal.push-requires
push-requires t c = (omega arith, short c.args.set c.in-Some.branches c.in-Some.ensures _ (items_of c.args.path.now) c.requires)

pub put_clauses-requires : goal.put_clauses-requires
put_clauses-requires t c =
    let o = c.in-Some.ensures in
    (omega (arith, o.with_less), below_high c.args.set c.in-Some.branches o _ _ c.requires _ c.push.ensures)

-- the path is again what it was
again : (t : ℕ) (c : goal.After-pop t) → items_of c.pop.new.self ≡ items_of c.args.path.now
again t c = popped (items_of c.args.path.now) (items_of c.put_clauses.new.path) (items_of c.pop.new.self) c.in-Some.branches.code (c.put_clauses.ensures.path ∙ c.push.ensures) c.pop.ensures

pub put_clauses-requires-2 : goal.put_clauses-requires-2
put_clauses-requires-2 t c =
    let o = c.in-Some.ensures in
    let d = (goal.at.put_clauses-requires-2 t c).After-pop in
    (omega (arith, o.without_less), below_low c.args.set c.in-Some.branches o _ _ c.requires _ (again t d))

pub returns-clause-text : goal.returns-clause-text
returns-clause-text t c =
    let d = (goal.at.returns-clause-text t c).After-pop in
    rw (lines_split c.args.set c.in-Some.branches c.in-Some.ensures c.args.prefix.now _ _ _ c.push.ensures (again t d)) (puts_then c.put_clauses.ensures.text c.put_clauses-2.ensures.text)
