use Rattle.std.proofs.Common.{arith}
use Rattle.std.proofs.Math.Seq.{take-set-lt}
use Rattle.std.proofs.lemmas.Grind.{common_steps}
use Rattle.arrays.proofs.list.FixedList.set.Goals as goal

-- the place is below the length, so the write is within the items
pub returns : goal.returns
returns g c = take-set-lt _ _ _ _ (grind (arith, common_steps, c.requires))
