use Rattle.std.proofs.Common.{Ok, Err, refl, ap, ◌∙◌}
use Rattle.std.proofs.lemmas.Result.{err_from_is_err_and}
use Rattle.ledger.specs.Answers.{nothing_to_decide, answer}
use Rattle.decision.specs.Endings.{ending_of, splits_of}
use Rattle.histories.specs.Dealings.{deals_undecided}
use Rattle.session.specs.Views.{stored_in, formula_in}
use Rattle.session.proofs.Cores.{ready_kept, core_decides}
use Rattle.session.proofs.Faults.{unfinished_result}
use Rattle.session.proofs.inner.Core.decide.Goals as goal

pub returns-in_default : goal.returns-in_default
returns-in_default g c = (nothing_to_decide, refl, deals_undecided (ap (formula_in c.args.self.now.table) c.in_default.is) c.requires)

pub returns-in_default-formula : goal.returns-in_default-formula
returns-in_default-formula g c =
    let table = c.args.self.now.table in
    (nothing_to_decide, refl, deals_undecided (ap (formula_in table) c.in-Some.is ∙ ap (stored_in table) c.in_default-formula.is) c.requires)

pub decide-requires : goal.decide-requires
decide-requires g c = c.args.self.now.ready c.in-Some.scope c.in-Some-formula.formula c.in-Some.is c.in-Some-formula.is

pub invariant_of-self-2 : goal.invariant_of-self-2
invariant_of-self-2 g c = record { ready = ready_kept c.args.self.now.table c.decide.new.table c.args.self.now.scope c.decide.ensures.keeps c.args.self.now.ready }

pub returns-in_err-decide : goal.returns-in_err-decide
returns-in_err-decide g c =
    let p = err_from_is_err_and c.from_residual.result c.from_residual.ensures.1 in
    let u = c.in_err-decide.field-0.0 in
    rw (p.1, p.2) (
      answer (ending_of (Err u)) (splits_of (Err u)),
      unfinished_result u,
      core_decides g.M.Memo.held g.M.Memo.notes (g.C.Chooser.picks c.args.chooser.now) c.args.self.now c.args.memo.now c.decide.new.memo c.in-Some.scope c.in-Some-formula.formula c.decide.new.table (ending_of (Err u)) (splits_of (Err u)) c.args.allowance
          c.in-Some.is c.in-Some-formula.is c.requires c.in_err-decide.ensures.keeps c.in_err-decide.ensures.decides,
    )

pub returns : goal.returns
returns g c =
    let a = c.in_ok-decide.field-0 in (
      answer (ending_of (Ok a)) (splits_of (Ok a)),
      refl,
      core_decides g.M.Memo.held g.M.Memo.notes (g.C.Chooser.picks c.args.chooser.now) c.args.self.now c.args.memo.now c.decide.new.memo c.in-Some.scope c.in-Some-formula.formula c.decide.new.table (ending_of (Ok a)) (splits_of (Ok a)) c.args.allowance
          c.in-Some.is c.in-Some-formula.is c.requires c.in_ok-decide.ensures.keeps c.in_ok-decide.ensures.decides,
    )
