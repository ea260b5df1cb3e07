use Rattle.std.proofs.Common.{ℕ, List, Some, ap}
use Rattle.std.proofs.lemmas.Result.{err_from_is_err_and}
use Rattle.reduction.proofs.Settings.{made_makes, stopped_stops, adds_kept}
use Rattle.rendering.proofs.Facts.{stored_coded, set_within, set_few}
use Rattle.session.proofs.Cores.{formula_kept, ready_kept, ready_stored, below_quantifiers}
use Rattle.session.proofs.inner.Core.store.Goals as goal

pub store_clauses-requires : goal.store_clauses-requires
store_clauses-requires c = stored_coded c.args.formula.now c.requires.read.1

pub invariant_of-self : goal.invariant_of-self
invariant_of-self c =
    let core = c.args.self.now in
    let stopped = c.in_err-number.ensures.cases in
    record { ready = ready_kept core.table c.store_clauses.new.table core.scope (adds_kept core.table _ c.store_clauses.new.table stopped.grows) core.ready }

pub returns-in_err-number-clause-stores : goal.returns-in_err-number-clause-stores
returns-in_err-number-clause-stores c =
    let p = err_from_is_err_and c.from_residual.result c.from_residual.ensures.1 in
    let core = c.args.self.now in
    let stopped = c.in_err-number.ensures.cases in
    rw p.1 (
      stopped_stops core.table _ c.store_clauses.new.table stopped,
      formula_kept core.table c.store_clauses.new.table core.scope (adds_kept core.table _ c.store_clauses.new.table stopped.grows) core.ready,
    )

pub invariant_of-self-2 : goal.invariant_of-self-2
invariant_of-self-2 c =
    let f = c.args.formula.now in
    let read = c.requires.read.1 in
    let is = c.in_ok-number.ensures.cases.1 in
    record {
      ready = ready_stored c.store_clauses.new.table f.prefix _ (record {
        held = is.held;
        within = rw is.means (below_quantifiers f.prefix _ (set_within read));
        few = rw is.means (set_few read);
      });
    }

pub returns-clause-stores : goal.returns-clause-stores
returns-clause-stores c =
    let cases = c.in_ok-number.ensures.cases in (
      made_makes c.args.self.now.table _ c.store_clauses.new.table cases.0,
      ap (λ (s : List (List ℕ)). Some (record { variables = c.args.formula.now.variables; clauses = s })) cases.1.means,
    )
