use Rattle.theory.proofs.Scanning.{blocks_run, candidates_scanned}
use Rattle.theory.proofs.blocks_stand.Goals as goal

pub returns : goal.returns
returns c = record { run = blocks_run; scanned = candidates_scanned }
