use Rattle.table.proofs.Tables.{ends_stand, sizes_fit, sets_formed, sets_coded, numbers_apart, nodes_reached}
use Rattle.table.proofs.Crowding.{full_crowds}
use Rattle.table.proofs.sets_stand.Goals as goal

pub returns : goal.returns
returns c = record { ends = ends_stand; fits = sizes_fit; formed = sets_formed; coded = sets_coded; apart = numbers_apart; reached = nodes_reached; crowded = full_crowds }
