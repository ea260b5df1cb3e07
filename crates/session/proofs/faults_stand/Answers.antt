use Rattle.session.proofs.Faults.{faults_told}
use Rattle.session.proofs.faults_stand.Goals as goal

pub returns : goal.returns
returns c = faults_told
