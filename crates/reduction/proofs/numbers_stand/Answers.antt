use Rattle.reduction.proofs.Numbers.{numbers_stand_lem}
use Rattle.reduction.proofs.numbers_stand.Goals as goal

pub returns : goal.returns
returns c = numbers_stand_lem
