use Rattle.script.proofs.Unique.{stands}
use Rattle.script.proofs.spelling_stands.Goals as goal

pub returns : goal.returns
returns c = stands
