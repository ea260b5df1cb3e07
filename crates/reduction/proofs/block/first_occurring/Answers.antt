use Rattle.std.proofs.Common.{rules, tests}
use Rattle.reduction.specs.Tests.{candidate_by, occurring}
use Rattle.reduction.proofs.Scans.{found_lowest}
use Rattle.reduction.proofs.block.first_occurring.Goals as goal

pub returns : goal.returns
returns c = found_lowest (λ x. occurring (candidate_by c.args.counts.now.at x)) _ _ _ c.find.result c.find.ensures.ran (λ x b q k. search (rules, tests))
