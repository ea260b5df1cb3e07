use Rattle.std.proofs.Common.{◌+◌, length}
use Rattle.reduction.proofs.Listings.{Gathered}
use Rattle.reduction.proofs.block.block_from.Given as goal

abbrev pub invariant-loop-place : goal.invariant-loop-place
invariant-loop-place l = Gathered l.counts.at l.bindings l.first (l.first + length l.yielded) l.found
