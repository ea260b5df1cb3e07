use Rattle.std.proofs.Common.{rules, tests}
use Rattle.reduction.specs.Tests.{unit_by}
use Rattle.reduction.proofs.Scans.{found_lowest}
use Rattle.reduction.proofs.step.lowest_unit.Goals as goal

pub returns : goal.returns
returns c = found_lowest (unit_by c.args.units.now.at c.args.quantifier c.args.bindings.now) _ _ _ c.find.result c.find.ensures.ran (λ x b q k. search (rules, tests))
