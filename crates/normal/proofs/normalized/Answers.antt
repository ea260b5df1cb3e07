use Rattle.std.proofs.Common.{length, refl, ◌∙◌}
use Rattle.std.proofs.lemmas.Result.{err_from_is_err_and}
use Rattle.formula.specs.Views.{reading}
use Rattle.normal.proofs.Lengths.{never_short}
use Rattle.normal.proofs.Crowds.{crowded}
use Rattle.rendering.proofs.Facts.{stored_coded, set_within, set_few}
use Rattle.normal.proofs.normalized.Goals as goal

pub store_clauses-requires : goal.store_clauses-requires
store_clauses-requires c = stored_coded c.read_into.new.formula ((c.in_ok-read_into.ensures.accepted (reading c.read_into.new.formula)).0 refl)

pub returns-in_err-number-clause-normal : goal.returns-in_err-number-clause-normal
returns-in_err-number-clause-normal c =
    let f = c.read_into.new.formula in
    let p = err_from_is_err_and c.from_residual-in_err-number.result c.from_residual-in_err-number.ensures.1 in
    rw (p.1, p.2) (
      reading f,
      (c.in_ok-read_into.ensures.accepted (reading f)).0 refl,
      crowded c.new-table.result _ c.store_clauses.new.table c.new-table.ensures c.in_err-number.ensures.cases,
      refl,
    )

pub write-requires : goal.write-requires
write-requires c =
    let f = c.read_into.new.formula in
    let format = (c.in_ok-read_into.ensures.accepted (reading f)).0 refl in
    let means = c.set-set.ensures.clauses ∙ c.in_ok-number.ensures.cases.1.means in
    record { bound = rw means (set_within format); few = rw means (set_few format) }

pub returns-in_err-len-clause-normal : goal.returns-in_err-len-clause-normal
returns-in_err-len-clause-normal c =
    let f = c.read_into.new.formula in
    let p = err_from_is_err_and c.from_residual-in_err-len.result c.from_residual-in_err-len.ensures.1 in
    rw (p.1, p.2) (
      reading f,
      (c.in_ok-read_into.ensures.accepted (reading f)).0 refl,
      rw (← (c.set-set.ensures.clauses ∙ c.in_ok-number.ensures.cases.1.means)) c.in_err-len.ensures,
    )

pub returns-clause-normal : goal.returns-clause-normal
returns-clause-normal c =
    let f = c.read_into.new.formula in (
      reading f,
      (c.in_ok-read_into.ensures.accepted (reading f)).0 refl,
      rw (← (c.set-set.ensures.clauses ∙ c.in_ok-number.ensures.cases.1.means)) c.in_ok-len.ensures,
    )

pub returns-in_err-len-clause-enough : goal.returns-in_err-len-clause-enough
returns-in_err-len-clause-enough c enough n e =
    let f = c.read_into.new.formula in
    never_short (reading f) ((c.in_ok-read_into.ensures.accepted (reading f)).0 refl) (length c.args.buffer.now) (rw (← (c.set-set.ensures.clauses ∙ c.in_ok-number.ensures.cases.1.means)) c.in_err-len.ensures.too_short) enough
