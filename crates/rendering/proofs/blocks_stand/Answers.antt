use Rattle.rendering.proofs.Blocks.{blocks_stand_lem}
use Rattle.rendering.proofs.blocks_stand.Goals as goal

pub returns : goal.returns
returns c = blocks_stand_lem
