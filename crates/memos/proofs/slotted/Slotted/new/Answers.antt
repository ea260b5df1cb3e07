use Rattle.memos.proofs.Slotting.{empty_slots}
use Rattle.memos.proofs.slotted.Slotted.new.Goals as goal

pub returns : goal.returns
returns c = empty_slots
