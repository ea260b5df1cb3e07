use Rattle.std.proofs.Common.{◌+◌, ◌-◌, ◌*◌}
use Rattle.decision.proofs.walk.Walk.+side_sides_split_walk.Given as goal

abbrev pub decreases-decide : goal.decreases-decide
decreases-decide g l = 4 * (256 - l.self.now.progress.depth) + 1

abbrev pub decreases-split : goal.decreases-split
decreases-split g l = 4 * (256 - l.self.now.progress.depth)

abbrev pub decreases-sides : goal.decreases-sides
decreases-sides g l = 4 * (256 - l.self.now.progress.depth) + 3

abbrev pub decreases-side : goal.decreases-side
decreases-side g l = 4 * (256 - l.self.now.progress.depth) + 2
