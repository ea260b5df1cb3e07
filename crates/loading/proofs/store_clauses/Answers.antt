use Rattle.std.proofs.Common.{List, ℕ, ◌<◌, ◌∷◌, ap, ◌∙◌, subst}
use Rattle.std.specs.List.{AllByRecursion}
use Rattle.std.proofs.lemmas.Result.{err_from_is_err_and}
use Rattle.formula.specs.Views.{clauses_of, clauses_left}
use Rattle.loading.proofs.Storing.{Stored, none_stored, stops_alone, stops_union, one_more}
use Rattle.loading.proofs.store_clauses.Goals as goal
use Rattle.loading.proofs.store_clauses.Goals.{In-Some}

pub loop-codes-init : goal.loop-codes-init
loop-codes-init c =
    let all = ap clauses_left c.into_iter-codes-iterator.ensures.into_iter_gives ∙ c.iter-codes-items.ensures in
    rw all (tt, tt, c.requires, none_stored c.args.table.now (clauses_of c.args.clauses.now))

-- the clause comes next
next : (c : In-Some) → Stored c.args.table.now (clauses_of c.args.clauses.now) (c.in-Some.codes.now ∷ clauses_left c.next.new.self) c.loop-codes.table c.loop-codes.set
next c = subst (λ (rest : List (List ℕ)). Stored c.args.table.now (clauses_of c.args.clauses.now) rest c.loop-codes.table c.loop-codes.set) c.in-Some.ensures.steps c.loop-codes.invariant.3

pub returns-in_err-clause : goal.returns-in_err-clause
returns-in_err-clause c =
    let p = err_from_is_err_and c.from_residual.result c.from_residual.ensures.1 in
    rw p.1 (stops_alone _ _ _ _ _ _ (next (goal.at.returns-in_err-clause c).In-Some) c.in_err-clause.ensures)

pub returns-in_err-set : goal.returns-in_err-set
returns-in_err-set c =
    let p = err_from_is_err_and c.from_residual-in_err-set.result c.from_residual-in_err-set.ensures.1 in
    rw p.1 (stops_union _ _ _ _ _ _ (next (goal.at.returns-in_err-set c).In-Some) c.in_ok-clause.ensures c.in_err-set.ensures)

pub loop-codes-preserved : goal.loop-codes-preserved
loop-codes-preserved c =
    let small = subst (AllByRecursion (AllByRecursion (λ (x : ℕ). x < 512))) c.in-Some.ensures.steps c.loop-codes.invariant.2 in
    (tt, tt, small.1, one_more _ _ _ _ _ _ (next (goal.at.loop-codes-preserved c).In-Some) c.in_ok-clause.ensures c.in_ok-set.ensures)
