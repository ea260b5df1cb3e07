use Rattle.std.proofs.Common.{rules}
use Rattle.choosers.proofs.Unbeaten.{first_found}
use Rattle.choosers.proofs.first.FirstChooser.choose.Goals as goal

pub returns : goal.returns
returns c = first_found c.args.candidates.now _ (search rules) (search rules)
