use Rattle.table.proofs.Probes.{idle}
use Rattle.table.proofs.index.Index.new.Goals as goal

pub returns : goal.returns
returns c = idle 8192
