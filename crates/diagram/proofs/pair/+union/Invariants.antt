use Rattle.std.proofs.Common.{◌+◌}
use Rattle.diagram.proofs.pair.+union.Given as goal

abbrev pub decreases-union : goal.decreases-union
decreases-union l = l.a + l.b
