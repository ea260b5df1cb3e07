use Rattle.std.proofs.Common.{◌*◌, length, ◌∙◌, sym, arith}
use Rattle.theory.proofs.Reducing.{lowest_below}
use Rattle.reduction.specs.Numbered.{quantified}
use Rattle.reduction.specs.Tests.{lone_by}
use Rattle.reduction.proofs.Steps.{line_empty, line_none, line_universal, not_some, line_unit, line_lone, line_stuck}
use Rattle.reduction.proofs.step.fitting_line.Goals as goal

pub returns-then-holds_empty : goal.returns-then-holds_empty
returns-then-holds_empty c = line_empty c.args.set.table.now c.args.set.number (quantified c.args.bindings.now) _ c.holds_empty.ensures c.if-holds_empty.true

pub returns-then-number-eq0 : goal.returns-then-number-eq0
returns-then-number-eq0 c = line_none c.args.set.table.now c.args.set.number c.args.bindings.now _ c.holds_empty.ensures c.if-holds_empty.false (sym c.number.ensures ∙ c.if-number-eq0.true)

pub returns-then-is_some : goal.returns-then-is_some
returns-then-is_some c =
    line_universal c.args.set.table.now c.args.set.number c.args.bindings.now _ c.holds_empty.ensures c.if-holds_empty.false
    c.args.set.held c.requires.few (λ z. c.if-number-eq0.false (c.number.ensures ∙ z)) _ c.find_units-units.ensures _ (sym c.is_some.ensures ∙ c.if-is_some.true) c.lowest_unit.ensures

pub returns-in-Some : goal.returns-in-Some
returns-in-Some c =
    let none = not_some _ (sym c.is_some.ensures ∙ c.if-is_some.false) c.lowest_unit.ensures in
    line_unit c.args.set.table.now c.args.set.number c.args.bindings.now _ c.holds_empty.ensures c.if-holds_empty.false
    c.args.set.held c.requires.few (λ z. c.if-number-eq0.false (c.number.ensures ∙ z)) _ c.find_units-units.ensures none _ c.in-Some.ensures

pub quantifier_of-requires : goal.quantifier_of-requires
quantifier_of-requires c =
    let bs = c.args.bindings.now in
    let h = lowest_below (lone_by c.count_literals-counts.result.at) (2 * length bs) 0 c.in-Some-lowest_lone.literal (sym c.in-Some-lowest_lone.ensures) in
    omega arith

pub returns-in-Some-lowest_lone : goal.returns-in-Some-lowest_lone
returns-in-Some-lowest_lone c =
    let none = not_some _ (sym c.is_some.ensures ∙ c.if-is_some.false) c.lowest_unit.ensures in
    line_lone c.args.set.table.now c.args.set.number c.args.bindings.now _ c.holds_empty.ensures c.if-holds_empty.false
    c.args.set.held c.requires.few (λ z. c.if-number-eq0.false (c.number.ensures ∙ z)) _ c.find_units-units.ensures none c.in_default.ensures _ c.count_literals-counts.ensures
    _ c.in-Some-lowest_lone.ensures _ c.quantifier_of.ensures _ c.favoured.ensures

pub returns-in-None : goal.returns-in-None
returns-in-None c =
    let none = not_some _ (sym c.is_some.ensures ∙ c.if-is_some.false) c.lowest_unit.ensures in
    line_stuck c.args.set.table.now c.args.set.number c.args.bindings.now _ c.holds_empty.ensures c.if-holds_empty.false
    c.args.set.held c.requires.few (λ z. c.if-number-eq0.false (c.number.ensures ∙ z)) _ c.find_units-units.ensures none c.in_default.ensures _ c.count_literals-counts.ensures
    c.in-None.ensures
