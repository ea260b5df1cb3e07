use Rattle.std.proofs.Common.{ap, ◌∙◌, refl}
use Rattle.std.proofs.lemmas.Result.{err_from_is_err_and}
use Rattle.formula.specs.Views.{bindings_of}
use Rattle.session.specs.Places.{prefix_in}
use Rattle.session.specs.Views.{stored_in, formula_in}
use Rattle.session.proofs.Cores.{below_bindings, stored_there}
use Rattle.session.proofs.inner.Core.write.Goals as goal

pub returns-in_default-formula : goal.returns-in_default-formula
returns-in_default-formula c =
    let table = c.args.self.now.table in
    (ap (formula_in table) c.in-Some.is ∙ ap (stored_in table) c.in_default-formula.is, refl)

pub set-requires : goal.set-requires
set-requires c = (c.args.self.now.ready c.in-Some.scope c.in-Some-formula.formula c.in-Some.is c.in-Some-formula.is).held

pub write-requires : goal.write-requires
write-requires c =
    let ready = c.args.self.now.ready c.in-Some.scope c.in-Some-formula.formula c.in-Some.is c.in-Some-formula.is in
    record { bound = below_bindings c.in-Some.scope.prefix _ (rw c.set.ensures.clauses ready.within); few = rw c.set.ensures.clauses ready.few }

pub returns-in_err-write : goal.returns-in_err-write
returns-in_err-write c =
    let there = stored_there c.args.self.now.table _ _ _ _ c.in-Some.is c.in-Some-formula.is c.set.ensures.clauses in
    let p = err_from_is_err_and c.from_residual.result c.from_residual.ensures.1 in
    rw (p.1, p.2) (bindings_of c.in-Some.scope.prefix, _, ap prefix_in c.in-Some.is, there, c.in_err-write.ensures)

pub returns : goal.returns
returns c =
    let there = stored_there c.args.self.now.table _ _ _ _ c.in-Some.is c.in-Some-formula.is c.set.ensures.clauses in
    (bindings_of c.in-Some.scope.prefix, _, ap prefix_in c.in-Some.is, there, c.in_ok-write.ensures)
