use Rattle.std.proofs.Common.{rules, tests}
use Rattle.reduction.specs.Tests.{lone_by}
use Rattle.reduction.proofs.Scans.{found_lowest}
use Rattle.reduction.proofs.step.lowest_lone.Goals as goal

pub returns : goal.returns
returns c = found_lowest (lone_by c.args.counts.now.at) _ _ _ c.find.result c.find.ensures.ran (λ x b q k. search (rules, tests))
