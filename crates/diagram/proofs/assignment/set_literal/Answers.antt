use Rattle.std.proofs.lemmas.Result.{err_from_is_err_and}
use Rattle.table.specs.Tables.{clauses}
use Rattle.diagram.proofs.Settings.{stopped_left, stopped_short, stopped_rest, all_set}
use Rattle.diagram.proofs.assignment.set_literal.Goals as goal

pub returns-in_err-left : goal.returns-in_err-left
returns-in_err-left c =
    let t = c.args.table.now in
    let p = err_from_is_err_and c.from_residual.result c.from_residual.ensures.1 in
    rw p.1 (stopped_left t (clauses t c.args.number) c.args.literal _ c.opposite-other.ensures c.in_err-left.ensures)

pub returns-in_err-shortened : goal.returns-in_err-shortened
returns-in_err-shortened c =
    let t = c.args.table.now in
    let p = err_from_is_err_and c.from_residual-in_err-shortened.result c.from_residual-in_err-shortened.ensures.1 in
    rw p.1 (stopped_short t (clauses t c.args.number) c.args.literal _ c.opposite-other.ensures c.in_ok-left.ensures c.in_err-shortened.ensures)

pub returns-in_err-untouched : goal.returns-in_err-untouched
returns-in_err-untouched c =
    let t = c.args.table.now in
    let p = err_from_is_err_and c.from_residual-in_err-untouched.result c.from_residual-in_err-untouched.ensures.1 in
    rw p.1 (stopped_rest t (clauses t c.args.number) c.args.literal _ c.opposite-other.ensures c.in_ok-left.ensures c.in_ok-shortened.ensures c.in_err-untouched.ensures)

pub returns : goal.returns
returns c =
    let t = c.args.table.now in
    all_set t (clauses t c.args.number) c.args.literal _ c.opposite-other.ensures c.in_ok-left.ensures c.in_ok-shortened.ensures c.in_ok-untouched.ensures c.union.ensures
