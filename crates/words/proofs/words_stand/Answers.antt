use Rattle.words.proofs.Places.{words_stand_lem}
use Rattle.words.proofs.words_stand.Goals as goal

pub returns : goal.returns
returns c = words_stand_lem
