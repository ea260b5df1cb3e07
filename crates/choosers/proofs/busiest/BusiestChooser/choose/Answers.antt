use Rattle.std.proofs.Common.{rules}
use Rattle.choosers.proofs.Unbeaten.{busiest_found}
use Rattle.choosers.proofs.busiest.BusiestChooser.choose.Goals as goal

pub returns : goal.returns
returns c = busiest_found c.args.candidates.now c.unwrap.result.now (search rules) (search rules)
