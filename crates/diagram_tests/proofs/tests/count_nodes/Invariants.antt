use Rattle.std.proofs.Common.{◌≡◌, length}
use Rattle.diagram_tests.proofs.tests.count_nodes.Given as goal

abbrev pub invariant-loop-n : goal.invariant-loop-n
invariant-loop-n l = length l.reached ≡ 4098
