use Rattle.theory.proofs.Stands.{some_candidate}
use Rattle.theory.proofs.Blocks.{split_first}
use Rattle.theory.proofs.Walking.{bare_unfolds, bare_right}
use Rattle.theory.proofs.walk_stands.Goals as goal

pub returns : goal.returns
returns c = record { first = split_first; candidate = some_candidate; ends = bare_unfolds; right = bare_right }
